use Rattle.pictures.proofs.pictures_show_what_a_check_finds.Goals as goal

pub returns-clause-lost : goal.returns-clause-lost
returns-clause-lost c = λ geo view a. (
  (λ h. (h.0, h.2, (λ claimed. h.1 claimed.0 claimed.1 claimed.2))),
  (λ h. (h.0, (λ i k claim. h.2 (i, k, claim)), h.1)),
)

pub returns-clause-duplicate : goal.returns-clause-duplicate
returns-clause-duplicate c = λ geo view a. (
  (λ h. (h.1.2, h.1.3, (h.1.5, h.1.0, h.1.1, h.1.4, h.1.6))),
  (λ h. (h.2.0.1, (h.2.1, h.2.2, h.0, h.1, h.2.3, h.2.0, h.2.4))),
)
