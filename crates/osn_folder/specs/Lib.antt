pub mod Crash
pub mod Folder
pub mod FollowedFile
pub mod FolderInside
pub mod KeptFile
