mod WordLemmas
mod TakenLemmas
