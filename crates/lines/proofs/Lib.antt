pub mod TextLaws
pub mod SheetTexts
pub mod WordLaws
