-- Looking a task up in a list of rising priorities.
use Rattle.std.proofs.Common.{◌≡◌, ℕ, false, ◌⊎◌, List, [], ◌∷◌, get_or, is_some, Some, None, Option, refl, inl, inr, ⊎_elim, one-add, arith}
use Rattle.std.specs.Option.{option_map}
use Rattle.std.proofs.ByRecursion.{All-weaker}
use Rattle.std.proofs.lemmas.Bool.{cases_order, lt-ltb, le-ltb, eq-eqb, ne_eqb}
use Rattle.model.specs.declared.kinds.Task.{Task}
use Rattle.model.specs.Lists.{Pairwise}
use Rattle.model.specs.Records.{MoreUrgent, has_priority}
use Rattle.model.specs.Rewrite.{blank_task}
use Rattle.model.specs.System.{task_at}
use Rattle.model.specs.Lookup.{rank, StandsAt, Finds}
use Rattle.model.proofs.Lists.{first_by_none}

-- the task at the rank is the one that is sought, or there is none
pub sought : (tasks : List Task) (p : ℕ) → Pairwise MoreUrgent tasks
    → (StandsAt tasks p (rank p tasks) × (task_at p tasks ≡ Some (get_or tasks (rank p tasks) blank_task)))
    ⊎ ((StandsAt tasks p (rank p tasks) → ⊥) × (task_at p tasks ≡ None))
sought [] p up = inr (λ at. omega arith, refl)
sought (t ∷ ts) p up =
    elim (cases_order t.priority p) [
      | inl same ↦
          rw (le-ltb t.priority p (omega arith), eq-eqb t.priority p same) (inl ((omega arith, same), refl))
      | inr (inl low) ↦
          rw (lt-ltb t.priority p low, ne_eqb t.priority p (λ e. omega arith), one-add)
          (elim (sought ts p up.1) [
            | inl (at, is) ↦ inl ((omega arith, at.1), is)
            | inr (miss, is) ↦ inr (λ at. miss (omega arith, at.1), is)
          ])
      | inr (inr high) ↦
          let behind = All-weaker (MoreUrgent t) (λ u. has_priority p u ≡ false) (λ u lt. ne_eqb u.priority p (λ e. omega arith)) ts up.0 in
          rw (le-ltb t.priority p (omega arith), ne_eqb t.priority p (λ e. omega arith))
          (inr (λ at. omega arith, first_by_none (has_priority p) ts behind))
    ]

-- the place that `find` answers is that of the task, and where it answers nothing there is none
pub looked_up : (tasks : List Task) (p : ℕ) (r : Option ℕ) → Pairwise MoreUrgent tasks → Finds tasks p r
    → task_at p tasks ≡ option_map (λ k. get_or tasks k blank_task) r
looked_up tasks p None up miss = ⊎_elim (λ hit. absurd (miss hit.0)) (λ non. non.1) (sought tasks p up)
looked_up tasks p (Some k) up (is, at) =
    ⊎_elim (λ hit. rw is hit.1) (λ non. absurd (non.0 (rw is at at))) (sought tasks p up)

-- so it answers a place exactly where a task of the priority stands
pub finds_some : (tasks : List Task) (p : ℕ) (r : Option ℕ) → Pairwise MoreUrgent tasks → Finds tasks p r → is_some r ≡ is_some (task_at p tasks)
finds_some tasks p None up finds = rw (looked_up tasks p None up finds) refl
finds_some tasks p (Some k) up finds = rw (looked_up tasks p (Some k) up finds) refl
