mod ProgramLemmas
mod ReadLemmas
