-- Within the bound of cycles a cap does not show.
use Rattle.std.proofs.Common.{◌≡◌, ℕ, ◌≤◌, Bool, true, leb, List, map, Decides, refl, ◌∙◌, arith}
use Rattle.std.specs.List.{AllByRecursion}
use Rattle.std.proofs.ByRecursion.{All-weaker}
use Rattle.std.proofs.lemmas.Bool.{le-leb, leb-true}
use Rattle.std.proofs.lemmas.Bool.Decides.{Decides-like}
use Rattle.model.specs.declared.kinds.Task.{Task}
use Rattle.model.specs.declared.kinds.Section.{Section}
use Rattle.model.specs.Bounds.{max_cycles}
use Rattle.model.specs.Capped.{capped_cycles, capped_task, capped_section}
use Rattle.model.specs.Growth.{grown_cycles, grown_task, grown_section, grown, Grows}
use Rattle.model.specs.System.{System, system}
use Rattle.model.proofs.Keeping.{same_system}
use Rattle.model.proofs.Lists.{map_same}

capped_is : (m a : ℕ) → grown_cycles m a ≤ max_cycles → capped_cycles m a ≡ grown_cycles m a
capped_is m a fits = omega arith

-- what the capped growth of every task and section leaves
pub capped_grown : (m : ℕ) (s : System) {tasks : List Task} {sections : List Section} → Grows m s → tasks ≡ map (capped_task m) s.tasks → sections ≡ map (capped_section m) s.sections → system s.steps s.switch tasks sections ≡ grown m s
capped_grown m s g tasks sections =
    same_system s.switch refl
    (tasks ∙ map_same _ (capped_task m) (grown_task m) (λ t fits. rw (capped_is m t.cycles fits)) s.tasks g.tasks)
    (sections ∙ map_same _ (capped_section m) (grown_section m) (λ c fits. rw (capped_is m c.cycles fits)) s.sections g.sections)

-- a test of the bound at each item decides the rule
pub decides_bound : {X : Type 0} (m : ℕ) (cycles : X → ℕ) (xs : List X) (r : Bool) → Decides r (AllByRecursion (λ x. leb (grown_cycles m (cycles x)) max_cycles ≡ true) xs) → Decides r (AllByRecursion (λ x. grown_cycles m (cycles x) ≤ max_cycles) xs)
decides_bound m cycles xs r h =
    Decides-like r
    (All-weaker _ _ (λ x e. leb-true (grown_cycles m (cycles x)) max_cycles e) xs)
    (All-weaker _ _ (λ x le. le-leb (grown_cycles m (cycles x)) max_cycles le) xs)
    h
