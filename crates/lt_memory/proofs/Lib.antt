pub mod Keys
pub mod Lists
pub mod Inserted
pub mod Numbers
pub mod Marked
pub mod Spans
pub mod Growing
