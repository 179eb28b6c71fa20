mod PlanLemmas
mod SureLemmas
mod TextLemmas
mod EndsLemmas
