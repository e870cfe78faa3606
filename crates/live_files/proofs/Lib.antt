mod OpenLemmas
mod ReadLemmas
