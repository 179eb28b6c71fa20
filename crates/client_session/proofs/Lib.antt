mod AnswerLemmas
mod SameLemmas
