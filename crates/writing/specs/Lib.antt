pub mod Drafts
pub mod DraftLaws
pub mod SizedLaws
