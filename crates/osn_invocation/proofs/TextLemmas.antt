-- The text that an argument is read as.
use Rattle.std.proofs.Common.{◌≡◌, ◌∙◌, [], Option, Some, None, ap}
use Rattle.std.specs.Prelude.{unwrap_or, option_map}
use Rattle.std.specs.Borrow.{Bor}
use Rattle.std.specs.Option.{UnwrapsOrElse}
use Rattle.clap.specs.Words.{Text, first_value, rows_of}
use Rattle.clap.specs.declared.parser.matches.Found.{Found}
use Rattle.clap.proofs.WalkLemmas.{first_value-rows}
use Rattle.osn_invocation.specs.Invocation.{text_of}

-- the text that `get_str` gives, or the empty one
pub text_given : (D : Bor Text → Type 0) → ((x : Bor Text) → D x → x.now ≡ [])
    → (f : Found) (name : Text) (o : Option (Bor Text)) (r : Bor Text)
    → option_map (λ s. s.now) o ≡ first_value f name → UnwrapsOrElse o D r
    → r.now ≡ text_of name (rows_of f)
text_given D empty f name None r e h =
    empty r h ∙ ap (λ t. unwrap_or t []) (e ∙ first_value-rows f name)
text_given D empty f name (Some x) r e h =
    ap (λ (s : Bor Text). s.now) h ∙ ap (λ t. unwrap_or t []) (e ∙ first_value-rows f name)
