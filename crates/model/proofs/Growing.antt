-- A grown system keeps the rules.
use Rattle.std.proofs.Common.{◌≡◌, ℕ, ◌+◌, ◌*◌, ◌≤◌, true, cond, List, [], ◌∷◌, map, length, is_some, Some, None, Option, refl, ⊎_elim, mul-le-mul_right, mul-add, arith, MatchOption}
use Rattle.std.specs.Option.{option_map}
use Rattle.std.specs.List.{AllByRecursion, Contains}
use Rattle.std.proofs.ByRecursion.{All-map, All-weaker}
use Rattle.std.proofs.lemmas.List.{length-map}
use Rattle.std.proofs.lemmas.List.Elements.{All-contains, All-from_recursion}
use Rattle.std.proofs.lemmas.Bool.{cases_Bool, false≢true, le-leb, leb-true}
use Rattle.model.specs.declared.kinds.Task.{Task}
use Rattle.model.specs.declared.kinds.Section.{Section}
use Rattle.model.specs.Bounds.{max_cycles}
use Rattle.model.specs.Fitting.{fits}
use Rattle.model.specs.Growth.{grown_cycles, grown_task, grown_section, grown, Grows}
use Rattle.model.specs.Records.{TaskBounded, Ordered, FloorFits, MoreUrgent, has_priority, SectionBounded, Within, Apart}
use Rattle.model.specs.System.{System, system, Keeps, Owned}
use Rattle.model.proofs.Keeping.{keeps_with, same_system}
use Rattle.model.proofs.Lists.{all_both, pairwise_map, first_by_map}
use Rattle.model.proofs.Quotients.{up_covers, up_rises}

module _ (m : ℕ) where
  grown_covers : (a : ℕ) → a ≤ grown_cycles m a
  grown_covers a = omega (arith, up_covers (a * (100 + m)) 100 (omega arith), mul-add a 100 m)

  grown_rises : (a b : ℕ) → a ≤ b → grown_cycles m a ≤ grown_cycles m b
  grown_rises a b h = up_rises (a * (100 + m)) (b * (100 + m)) 100 (omega arith) (mul-le-mul_right (100 + m) h)

  -- a section grows within its owner
  within_grown : (c : Section) (o : Option Task) → MatchOption o ⊥ (Within c) → MatchOption (option_map (grown_task m) o) ⊥ (Within (grown_section m c))
  within_grown c None h = h
  within_grown c (Some t) h = grown_rises c.cycles t.cycles h

  owned_grown : (tasks : List Task) (c : Section) → Owned tasks c → Owned (map (grown_task m) tasks) (grown_section m c)
  owned_grown tasks c h = rw (first_by_map (has_priority c.owner) (grown_task m) (λ _. refl) tasks) (within_grown c _ h)

pub keeps_grown : (m : ℕ) (s : System) → Keeps s → Grows m s → Keeps (grown m s)
keeps_grown m s k g =
    keeps_with s (map (grown_task m) s.tasks) (map (grown_section m) s.sections) k
    (rw (length-map s.tasks (grown_task m)) k.few_tasks)
    (All-map TaskBounded (grown_task m) s.tasks
    (all_both _ TaskBounded (λ t. TaskBounded (grown_task m t)) (λ t fits b. (b.0, omega (arith, grown_covers m t.cycles, b.1), fits, b.3, b.4, b.5)) s.tasks g.tasks k.bounded))
    (All-map Ordered (grown_task m) s.tasks k.ordered)
    (All-map (FloorFits (length s.steps)) (grown_task m) s.tasks k.floors)
    (pairwise_map MoreUrgent (grown_task m) (λ a b h. h) s.tasks k.rising)
    (rw (length-map s.sections (grown_section m)) k.few_sections)
    (All-map SectionBounded (grown_section m) s.sections
    (All-weaker SectionBounded (λ c. SectionBounded (grown_section m c)) (λ c b. (b.0, b.1, omega (arith, grown_covers m c.cycles, b.2))) s.sections k.sections_bounded))
    (All-map (Owned (map (grown_task m) s.tasks)) (grown_section m) s.sections
    (All-weaker (Owned s.tasks) (λ c. Owned (map (grown_task m) s.tasks) (grown_section m c)) (owned_grown m s.tasks) s.sections k.owned))
    (pairwise_map Apart (grown_section m) (λ a b h. h) s.sections k.apart)

-- ---- where each item is tried for growth

module _ {X : Type 0} (m : ℕ) (cycles : X → ℕ) (f : X → X) where
  -- the item as f leaves it, where its cycles fit with their margin
  abbrev pub tried : X → Option X
  tried x = cond (fits m (cycles x)) (Some (f x)) None

  all_tried : (xs ys : List X) → map Some ys ≡ map tried xs → AllByRecursion (λ x. grown_cycles m (cycles x) ≤ max_cycles) xs × (ys ≡ map f xs)
  all_tried [] [] e = (tt, refl)
  all_tried [] (y ∷ ys) e = absurd (cc)
  all_tried (x ∷ xs) [] e = absurd (cc)
  all_tried (x ∷ xs) (y ∷ ys) e =
      ⊎_elim
      (λ t.
      let same = rw t at e in
      let head : y ≡ f x = cc in
      let rest : map Some ys ≡ map tried xs = cc in
      let more = all_tried xs ys rest in
      ((leb-true (grown_cycles m (cycles x)) max_cycles t, more.0), rw (head, more.1) refl))
      (λ n. let same = rw n at e in absurd (cc))
      (cases_Bool (fits m (cycles x)))

  some_tried : (x : X) → grown_cycles m (cycles x) ≤ max_cycles → is_some (tried x) ≡ true
  some_tried x le = rw (le-leb (grown_cycles m (cycles x)) max_cycles le) refl

  none_tried : (xs : List X) → Contains (map tried xs) None → AllByRecursion (λ x. grown_cycles m (cycles x) ≤ max_cycles) xs → ⊥
  none_tried xs none all =
      let some = All-map (λ o. is_some o ≡ true) tried xs (All-weaker _ _ some_tried xs all) in
      false≢true (All-contains (λ o. is_some o ≡ true) (map tried xs) None (All-from_recursion _ _ some) none)

module _ (m : ℕ) where
  abbrev pub fitting_task : Task → Option Task
  fitting_task = tried m (λ t. t.cycles) (grown_task m)

  abbrev pub fitting_section : Section → Option Section
  fitting_section = tried m (λ c. c.cycles) (grown_section m)

  pub no_task_grown : (s : System) → Contains (map fitting_task s.tasks) None → Grows m s → ⊥
  no_task_grown s none g = none_tried m (λ t. t.cycles) (grown_task m) s.tasks none g.tasks

  pub no_section_grown : (s : System) → Contains (map fitting_section s.sections) None → Grows m s → ⊥
  no_section_grown s none g = none_tried m (λ c. c.cycles) (grown_section m) s.sections none g.sections

  pub all_grown : (s : System) {tasks : List Task} {sections : List Section} → map Some tasks ≡ map fitting_task s.tasks → map Some sections ≡ map fitting_section s.sections
      → Grows m s × (system s.steps s.switch tasks sections ≡ grown m s)
  all_grown s tasks sections =
      let t = all_tried m (λ t. t.cycles) (grown_task m) s.tasks _ tasks in
      let c = all_tried m (λ c. c.cycles) (grown_section m) s.sections _ sections in
      (record { tasks = t.0; sections = c.0 }, same_system s.switch refl t.1 c.1)
