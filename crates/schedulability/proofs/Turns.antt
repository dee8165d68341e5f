-- What a client can cite that goes through tasks and steps in turn, or asks a test of a grown copy, by its own code. The
-- calls of this crate no longer do either by hand.
use Rattle.std.specs.Prelude.{◌≡◌, ℕ, ◌+◌, ◌*◌, ◌<◌, ◌≤◌, ◌⊎◌, Bool, List, [], ◌∷◌, length, get_or, take, sum_by, slice_index, slice_index_or, Decides}
use Rattle.std.proofs.Common.{◌∙◌, ap, subst, inl, inr, arith, length-take}
use Rattle.std.proofs.lemmas.List.{get_or-take, length-map}
use Rattle.std.proofs.lemmas.List.Elements.{All-from_recursion}
use Rattle.std.proofs.lemmas.List.Sums.{sum_by_more}
use Rattle.std.proofs.lemmas.Slice.Zip.{get_or-zip, length-zip}
use Rattle.std.specs.List.{zip, AllByRecursion}
use Rattle.model.specs.declared.kinds.Task.{Task}
use Rattle.model.specs.Growth.{Grows, grown, grown_task}
use Rattle.model.specs.Records.{TaskBounded}
use Rattle.model.specs.Rewrite.{blank_task}
use Rattle.model.specs.System.{System, Keeps}
use Rattle.timing.specs.Bounds.{max_cost}
use Rattle.timing.specs.Times.{IsSet, front}
use Rattle.schedulability.specs.Density.{part, whole}
use Rattle.schedulability.specs.Floors.{Allowed}
use Rattle.schedulability.specs.Parts.{part_fits}

-- ---- floors, task by task

-- the tasks and steps that are left keep the floors exactly when all do
abbrev pub Left : List Task → List ℕ → List Task → List ℕ → Type 0
Left all list tasks steps = (AllByRecursion Allowed (zip tasks steps) → AllByRecursion Allowed (zip all list)) × (AllByRecursion Allowed (zip all list) → AllByRecursion Allowed (zip tasks steps))

module _ (all : List Task) (list : List ℕ) {tasks left : List Task} {steps rest : List ℕ} {t : Task} {g : ℕ} (next : (tasks ≡ t ∷ left) × (steps ≡ g ∷ rest)) (so_far : Left all list tasks steps) where
  -- one task that is allowed its step
  pub left_more : Allowed (t, g) → Left all list left rest
  left_more ok = (λ h. so_far.0 (rw (next.0, next.1) (ok, h)), λ h. (rw (next.0, next.1) at (so_far.1 h)).1)

  -- one that is not
  pub left_broken : (Allowed (t, g) → ⊥) → AllByRecursion Allowed (zip all list) → ⊥
  left_broken broken h = broken (rw (next.0, next.1) at (so_far.1 h)).0

-- nothing is left
pub left_none : (all : List Task) (list : List ℕ) (tasks : List Task) (steps : List ℕ) → (tasks ≡ []) ⊎ (steps ≡ []) → Left all list tasks steps → AllByRecursion Allowed (zip all list)
left_none all list tasks steps (inl e) so_far = so_far.0 (rw e tt)
left_none all list [] steps (inr e) so_far = so_far.0 tt
left_none all list (t ∷ tasks) steps (inr e) so_far = so_far.0 (rw e tt)

-- ---- grown systems

-- a list stands for the same set of both
front_grown : (m : ℕ) (s : System) (list : List ℕ) → front (grown m s) list ≡ front s list
front_grown m s list = ap (λ n. take n list) (length-map s.tasks (grown_task m))

-- what a test answers of the grown copy n is the answer of the margin
pub answers_grown : {T : Type 0} (passes : T → System → List ℕ → Type 0) (t : T) (m : ℕ) (s n : System) (list : List ℕ) (r : Bool) → Grows m s → n ≡ grown m s → Decides r (passes t n (front n list)) → Decides r (Grows m s × passes t (grown m s) (front s list))
answers_grown passes t m s n list r fits is asked =
    let at_grown = subst (λ x. Decides r (passes t x (front x list))) is asked in
    let at_front = subst (λ xs. Decides r (passes t (grown m s) xs)) (front_grown m s list) at_grown in
    (λ e. (fits, at_front.0 e), λ p. at_front.1 p.1)

-- ---- density, task by task

-- the task at a place, as the program reads it, with the step that a list names there
module _ (s : System) (list : List ℕ) (k : Keeps s) (set : IsSet s (front s list)) (tasks : List Task) (are : tasks ≡ s.tasks) (i : ℕ) (low : i < length tasks) where
  place : i < length s.tasks
  place = rw are at low

  long : length s.tasks ≤ length list
  long = omega (arith, set.whole, length-take (length s.tasks) list)

  pub task_bounded : TaskBounded (slice_index_or tasks i blank_task)
  task_bounded = All-from_recursion TaskBounded tasks (rw are k.bounded) i blank_task low

  pub step_in : get_or list i 0 < length s.steps
  step_in = rw (← get_or-take (length s.tasks) list i 0 place) (All-from_recursion (λ g. g < length s.steps) (front s list) set.named i 0 (rw set.whole place))

  pub part_small : part s (slice_index_or tasks i blank_task, slice_index list i) ≤ max_cost * whole
  part_small = part_fits s (slice_index_or tasks i blank_task) (slice_index list i) k task_bounded step_in

  -- one more task
  pub part_next : sum_by (part s) (take (i + 1) (zip s.tasks (front s list))) ≡ sum_by (part s) (take i (zip s.tasks (front s list))) + part s (slice_index_or tasks i blank_task, slice_index list i)
  part_next =
      let pairs = zip s.tasks (front s list) in
      let short : i < length (front s list) = rw set.whole place in
      let inside : i < length pairs = omega (arith, length-zip s.tasks (front s list), place, short) in
      let here = get_or-zip s.tasks (front s list) i (blank_task, 0) place short in
      let read = get_or-take (length s.tasks) list i 0 place in
      let is : get_or pairs i (blank_task, 0) ≡ (slice_index_or tasks i blank_task, slice_index list i) = rw (here, read, are) in
      sum_by_more (part s) pairs i (blank_task, 0) inside ∙ ap (λ a. sum_by (part s) (take i pairs) + part s a) is
