-- What the place of a priority means in a list of rising priorities.
use Rattle.std.proofs.Common.{◌≡◌, ℕ, ◌<◌, ◌≤◌, false, List, [], ◌∷◌, map, get_or, take, drop, set, filter, sym, refl, ap, ⊎_elim, one-add, arith}
use Rattle.std.specs.List.{insert, AllByRecursion}
use Rattle.std.proofs.ByRecursion.{All-weaker}
use Rattle.std.proofs.lemmas.Bool.{cases_order, lt-ltb, le-ltb, eq-eqb, ne_eqb, eqb-false}
use Rattle.model.specs.declared.kinds.Task.{Task}
use Rattle.model.specs.Calls.{joined_by, replaced_by}
use Rattle.model.specs.Lists.{Pairwise}
use Rattle.model.specs.Lookup.{rank, StandsAt}
use Rattle.model.specs.Records.{MoreUrgent, has_priority, before, after}
use Rattle.model.specs.Rewrite.{blank_task, rewritten}
use Rattle.model.proofs.Lists.{kept_by_all, kept_by_none}

-- the tasks behind one of a greater priority number have greater ones too
behind : (p : ℕ) (t : Task) (tasks : List Task) → p ≤ t.priority → AllByRecursion (MoreUrgent t) tasks → AllByRecursion (λ u. p < u.priority) tasks
behind p t tasks le more = All-weaker (MoreUrgent t) (λ u. p < u.priority) (λ u h. omega arith) tasks more

module _ (p : ℕ) where
  none_before : (tasks : List Task) → AllByRecursion (λ u. p < u.priority) tasks → filter (before p) tasks ≡ []
  none_before tasks h = kept_by_none (before p) tasks (All-weaker _ _ (λ u l. le-ltb u.priority p (omega arith)) tasks h)

  all_after : (tasks : List Task) → AllByRecursion (λ u. p < u.priority) tasks → filter (after p) tasks ≡ tasks
  all_after tasks h = kept_by_all (after p) tasks (All-weaker _ _ (λ u l. lt-ltb p u.priority l) tasks h)

  pub rank_take : (tasks : List Task) → Pairwise MoreUrgent tasks → take (rank p tasks) tasks ≡ filter (before p) tasks
  rank_take [] rising = refl
  rank_take (t ∷ tasks) rising =
      let low : t.priority < p → take (rank p (t ∷ tasks)) (t ∷ tasks) ≡ filter (before p) (t ∷ tasks) =
      λ l. rw (lt-ltb t.priority p l, one-add) (ap (λ ts. t ∷ ts) (rank_take tasks rising.1)) in
      let high : p ≤ t.priority → take (rank p (t ∷ tasks)) (t ∷ tasks) ≡ filter (before p) (t ∷ tasks) =
      λ l. rw (le-ltb t.priority p l) (sym (none_before tasks (behind p t tasks l rising.0))) in
      ⊎_elim (λ e. high (omega arith)) (⊎_elim low (λ l. high (omega arith))) (cases_order t.priority p)

  pub rank_drop : (tasks : List Task) → Pairwise MoreUrgent tasks → AllByRecursion (λ t. has_priority p t ≡ false) tasks → drop (rank p tasks) tasks ≡ filter (after p) tasks
  rank_drop [] rising other = refl
  rank_drop (t ∷ tasks) rising other =
      ⊎_elim
      (λ e. absurd (eqb-false t.priority p other.0 e))
      (⊎_elim
      (λ l. rw (lt-ltb t.priority p l, le-ltb p t.priority (omega arith), one-add) (rank_drop tasks rising.1 other.1))
      (λ l. rw (le-ltb t.priority p (omega arith), lt-ltb p t.priority l) (ap (λ ts. t ∷ ts) (sym (all_after tasks (behind p t tasks (omega arith) rising.0))))))
      (cases_order t.priority p)

-- a task that is inserted at its rank stands between the more and the less urgent ones
pub inserted_joins : (t : Task) (tasks : List Task) → Pairwise MoreUrgent tasks → AllByRecursion (λ u. has_priority t.priority u ≡ false) tasks → insert tasks (rank t.priority tasks) t ≡ joined_by t tasks
inserted_joins t tasks rising other = rw (rank_take t.priority tasks rising, rank_drop t.priority tasks rising other)

module _ (new : Task) where
  none_replaced : (tasks : List Task) → AllByRecursion (λ u. new.priority < u.priority) tasks → tasks ≡ map (replaced_by new) tasks
  none_replaced [] h = refl
  none_replaced (t ∷ tasks) h = rw (ne_eqb t.priority new.priority (λ e. omega arith)) (ap (λ ts. t ∷ ts) (none_replaced tasks h.1))

  set_replaces : (tasks : List Task) → Pairwise MoreUrgent tasks → StandsAt tasks new.priority (rank new.priority tasks) → set tasks (rank new.priority tasks) new ≡ map (replaced_by new) tasks
  set_replaces [] rising here = refl
  set_replaces (t ∷ tasks) rising here =
      ⊎_elim
      (λ e. rw (le-ltb t.priority new.priority (omega arith), eq-eqb t.priority new.priority e) (ap (λ ts. new ∷ ts) (none_replaced tasks (behind new.priority t tasks (omega arith) rising.0))))
      (⊎_elim
      (λ l.
      let there = rw (lt-ltb t.priority new.priority l, one-add) at here in
      let shifted : StandsAt tasks new.priority (rank new.priority tasks) = (omega arith, there.1) in
      rw (lt-ltb t.priority new.priority l, ne_eqb t.priority new.priority (λ e. omega arith), one-add) (ap (λ ts. t ∷ ts) (set_replaces tasks rising.1 shifted)))
      (λ l. absurd (omega (arith, rw (le-ltb t.priority new.priority (omega arith)) at here))))
      (cases_order t.priority new.priority)

  -- the record of its priority, rewritten in its place
  pub set_rewrites : (tasks : List Task) (k : ℕ) → Pairwise MoreUrgent tasks → k ≡ rank new.priority tasks → StandsAt tasks new.priority k → set tasks k (rewritten new (get_or tasks k blank_task)) ≡ map (replaced_by new) tasks
  set_rewrites tasks k rising e here =
      let same : rewritten new (get_or tasks k blank_task) ≡ new = ap (λ p. record { priority = p; cycles = new.cycles; period = new.period; deadline = new.deadline; jitter = new.jitter; floor = new.floor }) here.1 in
      rw (same, e) (set_replaces tasks rising (rw e at here))
