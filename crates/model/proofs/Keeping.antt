-- Each accepted call leaves a roster that keeps the rules.
use Rattle.std.proofs.Common.{◌≡◌, ℕ, ◌+◌, ◌<◌, ◌≤◌, true, false, eqb, List, [], ◌∷◌, ◌++◌, map, length, take, drop, is_some, IfSome, Some, None, filter, Option, sym, refl, ap, ◌∙◌, arith, MatchOption}
use Rattle.std.specs.Option.{option_map}
use Rattle.std.specs.List.{AllByRecursion}
use Rattle.std.proofs.lemmas.List.Edits.{length-insert}
use Rattle.std.proofs.ByRecursion.{All-append, all_kept_by, All-map, All-push, All-weaker, kept_by_passes}
use Rattle.std.proofs.lemmas.List.{length-map, length_push, take-append-drop}
use Rattle.std.proofs.lemmas.List.Sums.{prefix_len-le-length}
use Rattle.std.proofs.lemmas.Bool.{false≢true, eqb-true, eqb-false, ltb-true, ne_eqb, not_from_false, not-true, cond_both}
use Rattle.model.specs.declared.kinds.Step.{Step}
use Rattle.model.specs.declared.kinds.Task.{Task}
use Rattle.model.specs.declared.kinds.Section.{Section}
use Rattle.model.specs.declared.refusals.StepsRefusal.TheVariants.{Count, Range, Falling}
use Rattle.model.specs.declared.refusals.RosterRefusal.TheVariants.{Bound, Deadline, Floor, Taken, Absent, TasksFull, Overlong, SectionTaken, SectionsFull}
use Rattle.model.specs.Bounds.{max_sections, max_tasks}
use Rattle.model.specs.Calls.{LoadRule, loaded, EnterRule, joined_by, entered, AlterRule, replaced_by, altered, struck, SectionRule, section_entered, section_struck}
use Rattle.model.specs.Lists.{Pairwise}
use Rattle.model.specs.Lookup.{rank}
use Rattle.model.specs.Records.{TaskBounded, Ordered, FloorFits, MoreUrgent, has_priority, before, after, SectionBounded, Within, TakesIn, held_on, Apart, other_priority, other_owner, other_section}
use Rattle.model.specs.Refusals.{AllKept}
use Rattle.model.specs.System.{System, system, Keeps, task_at, Owned}
use Rattle.model.proofs.Lists.{all_both, all_kept_with, length_kept_by_le, pairwise_append, pairwise_push, pairwise_kept_by, pairwise_map, first_by_skip, first_by_none, first_by_passes, all_from_none, first_by_map, first_by_kept}
use Rattle.model.proofs.Places.{inserted_joins}

pub keeps_loaded : (steps : List Step) (switch : ℕ) → AllKept (LoadRule steps switch) → Keeps (loaded steps switch)
keeps_loaded steps switch rule = record {
  some_step = (rule Count).0;
  few_steps = (rule Count).1;
  in_range = (rule Range).0;
  falling = rule Falling;
  short_switch = (rule Range).1;
  few_tasks = omega arith;
  bounded = tt;
  ordered = tt;
  floors = tt;
  rising = tt;
  few_sections = omega arith;
  sections_bounded = tt;
  owned = tt;
  apart = tt;
}

pub same_system : (switch : ℕ) {a b : List Step} {t u : List Task} {c d : List Section} → a ≡ b → t ≡ u → c ≡ d → system a switch t c ≡ system b switch u d
same_system switch steps tasks sections = rw (steps, tasks, sections)

-- the rules as the roster's type holds them, for a system that is known by an equation
pub keeps_at : {s n : System} → n ≡ s → Keeps s → ∥ Keeps n ∥₁
keeps_at e k = rw e (∣ k ∣₁)

-- the same steps with other tasks and sections that keep the rules
pub keeps_with : (s : System) (tasks : List Task) (sections : List Section) → Keeps s
    → length tasks ≤ max_tasks → AllByRecursion TaskBounded tasks → AllByRecursion Ordered tasks → AllByRecursion (FloorFits (length s.steps)) tasks → Pairwise MoreUrgent tasks
    → length sections ≤ max_sections → AllByRecursion SectionBounded sections → AllByRecursion (Owned tasks) sections → Pairwise Apart sections
    → Keeps (system s.steps s.switch tasks sections)
keeps_with s tasks sections k few_tasks bounded ordered floors rising few_sections sections_bounded owned apart = record {
  some_step = k.some_step;
  few_steps = k.few_steps;
  in_range = k.in_range;
  falling = k.falling;
  short_switch = k.short_switch;
  few_tasks = few_tasks;
  bounded = bounded;
  ordered = ordered;
  floors = floors;
  rising = rising;
  few_sections = few_sections;
  sections_bounded = sections_bounded;
  owned = owned;
  apart = apart;
}

-- ---- entering a task

all_joined : (P : Task → Type 0) (t : Task) (tasks : List Task) → P t → AllByRecursion P tasks → AllByRecursion P (joined_by t tasks)
all_joined P t tasks new old =
    All-append P (filter (before t.priority) tasks) (t ∷ filter (after t.priority) tasks) (all_kept_by (before t.priority) P tasks old) (new, all_kept_by (after t.priority) P tasks old)

rising_joined : (t : Task) (tasks : List Task) → Pairwise MoreUrgent tasks → Pairwise MoreUrgent (joined_by t tasks)
rising_joined t tasks rising =
    let p = t.priority in
    let low = filter (before p) tasks in
    let high = filter (after p) tasks in
    let above : AllByRecursion (λ u. p < u.priority) high = All-weaker (λ u. after p u ≡ true) (λ u. p < u.priority) (λ u e. ltb-true p u.priority e) high (kept_by_passes (after p) tasks) in
    let across : AllByRecursion (λ u. AllByRecursion (MoreUrgent u) (t ∷ high)) low =
    All-weaker (λ u. before p u ≡ true) (λ u. AllByRecursion (MoreUrgent u) (t ∷ high)) (λ u e. (ltb-true u.priority p e, All-weaker (λ v. p < v.priority) (MoreUrgent u) (λ v h. omega (arith, ltb-true u.priority p e)) high above)) low (kept_by_passes (before p) tasks) in
    pairwise_append MoreUrgent low (t ∷ high) (pairwise_kept_by MoreUrgent (before p) tasks rising) (above, pairwise_kept_by MoreUrgent (after p) tasks rising) across

-- a section keeps its owner when another task joins
owned_joined : (t : Task) (tasks : List Task) → Pairwise MoreUrgent tasks → AllByRecursion (λ u. has_priority t.priority u ≡ false) tasks → (c : Section) → Owned tasks c → Owned (joined_by t tasks) c
owned_joined t tasks rising other c owned =
    let k = rank t.priority tasks in
    let absent : t.priority ≡ c.owner → ⊥ = λ e. rw (ap (λ p. task_at p tasks) (sym e) ∙ first_by_none (has_priority t.priority) tasks other) at owned in
    let miss : has_priority c.owner t ≡ false = ne_eqb t.priority c.owner absent in
    let same : task_at c.owner (joined_by t tasks) ≡ task_at c.owner tasks =
    ap (task_at c.owner) (sym (inserted_joins t tasks rising other)) ∙ first_by_skip (has_priority c.owner) (take k tasks) (drop k tasks) t miss ∙ ap (task_at c.owner) (take-append-drop k tasks) in
    rw same owned

pub keeps_entered : (s : System) (t : Task) → Keeps s → AllKept (EnterRule s t) → Keeps (entered s t)
keeps_entered s t k rule =
    let other = all_from_none (has_priority t.priority) s.tasks (rule Taken) in
    let joins = inserted_joins t s.tasks k.rising other in
    let long : length (joined_by t s.tasks) ≡ length s.tasks + 1 =
    ap length (sym joins) ∙ length-insert s.tasks (rank t.priority s.tasks) t (prefix_len-le-length (before t.priority) s.tasks) in
    keeps_with s (joined_by t s.tasks) s.sections k
    (omega (arith, rule TasksFull))
    (all_joined TaskBounded t s.tasks (rule Bound) k.bounded)
    (all_joined Ordered t s.tasks (rule Deadline) k.ordered)
    (all_joined (FloorFits (length s.steps)) t s.tasks (rule Floor) k.floors)
    (rising_joined t s.tasks k.rising)
    k.few_sections
    k.sections_bounded
    (All-weaker (Owned s.tasks) (Owned (joined_by t s.tasks)) (owned_joined t s.tasks k.rising other) s.sections k.owned)
    k.apart

-- ---- altering a task

all_replaced : (P : Task → Type 0) (new : Task) (tasks : List Task) → P new → AllByRecursion P tasks → AllByRecursion P (map (replaced_by new) tasks)
all_replaced P new tasks here old =
    All-map P (replaced_by new) tasks (All-weaker P (λ t. P (replaced_by new t)) (λ t h. cond_both (has_priority new.priority t) new t P (λ _. here) (λ _. h)) tasks old)

-- a record keeps its priority
replaced_priority : (new t : Task) → (replaced_by new t).priority ≡ t.priority
replaced_priority new t =
    cond_both (has_priority new.priority t) new t (λ u. u.priority ≡ t.priority) (λ e. sym (eqb-true t.priority new.priority e)) (λ _. refl)

owned_replaced : (new : Task) (tasks : List Task) (c : Section) → TakesIn new c → Owned tasks c → Owned (map (replaced_by new) tasks) c
owned_replaced new tasks c fits owned =
    let test = has_priority c.owner in
    let go : (o : Option Task) → ((t : Task) → o ≡ Some t → t.priority ≡ c.owner) → MatchOption o ⊥ (Within c) → MatchOption (option_map (replaced_by new) o) ⊥ (Within c) =
    λ o. elim o as (λ v. ((t : Task) → v ≡ Some t → t.priority ≡ c.owner) → MatchOption v ⊥ (Within c) → MatchOption (option_map (replaced_by new) v) ⊥ (Within c)) [
      | None ↦ λ _ h. h
      | Some t ↦ λ of_owner h. cond_both (has_priority new.priority t) new t (Within c) (λ e. fits (sym (of_owner t refl) ∙ eqb-true t.priority new.priority e)) (λ _. h)
    ] in
    let same = first_by_map test (replaced_by new) (λ t. ap (λ p. eqb p c.owner) (replaced_priority new t)) tasks in
    rw same (go (task_at c.owner tasks) (λ t e. eqb-true t.priority c.owner (first_by_passes test tasks t e)) owned)

pub keeps_altered : (s : System) (t : Task) → Keeps s → AllKept (AlterRule s t) → Keeps (altered s t)
keeps_altered s t k rule =
    keeps_with s (map (replaced_by t) s.tasks) s.sections k
    (rw (length-map s.tasks (replaced_by t)) k.few_tasks)
    (all_replaced TaskBounded t s.tasks (rule Bound) k.bounded)
    (all_replaced Ordered t s.tasks (rule Deadline) k.ordered)
    (all_replaced (FloorFits (length s.steps)) t s.tasks (rule Floor) k.floors)
    (pairwise_map MoreUrgent (replaced_by t) (λ a b h. rw (replaced_priority t a, replaced_priority t b) h) s.tasks k.rising)
    k.few_sections
    k.sections_bounded
    (all_both (TakesIn t) (Owned s.tasks) (Owned (map (replaced_by t) s.tasks)) (owned_replaced t s.tasks) s.sections (rule Overlong) k.owned)
    k.apart

-- ---- striking a task

owned_struck : (p : ℕ) (tasks : List Task) (c : Section) → other_owner p c ≡ true → Owned tasks c → Owned (filter (other_priority p) tasks) c
owned_struck p tasks c other owned =
    let differs : (t : Task) → has_priority c.owner t ≡ true → other_priority p t ≡ true =
    λ t e. not_from_false (has_priority p t) (ne_eqb t.priority p (λ f. eqb-false c.owner p (not-true (eqb c.owner p) other) (sym (eqb-true t.priority c.owner e) ∙ f))) in
    rw (first_by_kept (has_priority c.owner) (other_priority p) differs tasks) owned

pub keeps_struck : (s : System) (p : ℕ) → Keeps s → Keeps (struck s p)
keeps_struck s p k =
    let rest = other_priority p in
    let left = other_owner p in
    keeps_with s (filter rest s.tasks) (filter left s.sections) k
    (omega (arith, length_kept_by_le rest s.tasks, k.few_tasks))
    (all_kept_by rest TaskBounded s.tasks k.bounded)
    (all_kept_by rest Ordered s.tasks k.ordered)
    (all_kept_by rest (FloorFits (length s.steps)) s.tasks k.floors)
    (pairwise_kept_by MoreUrgent rest s.tasks k.rising)
    (omega (arith, length_kept_by_le left s.sections, k.few_sections))
    (all_kept_by left SectionBounded s.sections k.sections_bounded)
    (all_kept_with left (Owned s.tasks) (Owned (filter rest s.tasks)) (owned_struck p s.tasks) s.sections k.owned)
    (pairwise_kept_by Apart left s.sections k.apart)

-- ---- sections

-- the same steps and tasks with other sections that keep the rules
keeps_sections : (s : System) (sections : List Section) → Keeps s → length sections ≤ max_sections → AllByRecursion SectionBounded sections → AllByRecursion (Owned s.tasks) sections → Pairwise Apart sections → Keeps (system s.steps s.switch s.tasks sections)
keeps_sections s sections k = keeps_with s s.tasks sections k k.few_tasks k.bounded k.ordered k.floors k.rising

-- what holds of an owner, where there is one, holds of one that stands
of_owner : (o : Option Task) (P : Task → Type 0) → is_some o ≡ true → IfSome o P → MatchOption o ⊥ P
of_owner None P some h = absurd (false≢true some)
of_owner (Some t) P some h = h

pub keeps_section_entered : (s : System) (c : Section) → Keeps s → AllKept (SectionRule s c) → Keeps (section_entered s c)
keeps_section_entered s c k rule =
    keeps_sections s (s.sections ++ (c ∷ [])) k
    (omega (arith, length_push s.sections c, rule SectionsFull))
    (All-push SectionBounded s.sections c k.sections_bounded (rule Bound))
    (All-push (Owned s.tasks) s.sections c k.owned (of_owner (task_at c.owner s.tasks) (Within c) (rule Absent) (rule Overlong)))
    (pairwise_push Apart s.sections c k.apart (all_from_none (held_on c.owner c.resource) s.sections (rule SectionTaken)))

pub keeps_section_struck : (s : System) (p r : ℕ) → Keeps s → Keeps (section_struck s p r)
keeps_section_struck s p r k =
    let left = other_section p r in
    keeps_sections s (filter left s.sections) k
    (omega (arith, length_kept_by_le left s.sections, k.few_sections))
    (all_kept_by left SectionBounded s.sections k.sections_bounded)
    (all_kept_by left (Owned s.tasks) s.sections k.owned)
    (pairwise_kept_by Apart left s.sections k.apart)
