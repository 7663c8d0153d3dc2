mod CivilDays
mod Counting
mod NamedLemmas
mod ReadLemmas
mod WriteLemmas
mod WorkedCalls
