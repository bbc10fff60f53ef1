mod Adding
mod Numbers
mod Requests
mod WindowTexts
mod SpanTexts
pub mod WordLemmas
mod Among
