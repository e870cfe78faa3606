mod PaceLemmas
