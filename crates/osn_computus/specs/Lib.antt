pub mod Figures
pub mod Moon
pub mod Easter
pub mod Letters
pub mod RuleWords
pub mod FigureTexts
