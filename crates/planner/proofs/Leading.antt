-- Whatever leads to a planner leads on: one event more, and the claim still holds.
use Rattle.std.proofs.Common.{◌≡◌, ℕ, ◌≤◌, List, [], ◌∷◌, ◌++◌, Some, None, Ok, Err, Option, Result, sym, refl, ap, ◌∙◌, subst, arith}
use Rattle.std.specs.Result as results
use Rattle.model.specs.Refusals.{roster_number, AllKept, First, Outcome}
use Rattle.model.specs.declared.refusals.RosterRefusal.{RosterRefusal}
use Rattle.model.specs.System.{System, Keeps}
use Rattle.schedulability.specs.Laws.{TestLaws}
use Rattle.schedulability.specs.declared.test.Test as tests
use Rattle.tariffs.specs.Amounts.{AmountLaws}
use Rattle.planner.specs.Rates.{Rates}
use Rattle.planner.specs.declared.events.Change.{Change}
use Rattle.planner.specs.declared.events.Event.{Event}
use Rattle.planner.specs.declared.events.Event.TheVariants.{Changed, Planned}
use Rattle.planner.specs.declared.events.Progress.{Progress}
use Rattle.planner.specs.declared.mark.Mark.{Mark}
use Rattle.planner.specs.declared.mark.Mark.TheVariants.{Open, Best, Nothing}
use Rattle.planner.specs.declared.refusals.SearchRefusal.{SearchRefusal}
use Rattle.planner.specs.Calls.{Happens, PlanRule}
use Rattle.planner.specs.Changes.{ChangeRule, left_by}
use Rattle.planner.specs.Claim.{told, Right, Made, Answered, Answers, Led, Leads, Follows}
use Rattle.planner.specs.Events.{standing, settled_by}
use Rattle.planner.specs.Refusals.{search_number}
use Rattle.planner.specs.Search.{Problem, Found, Search, search, start, sets, Cheapest, Shows, Marked, mark_of, Ran}
use Rattle.planner.specs.State.{State, InBounds, opened, problem, sets_of, sought}
use Rattle.planner.proofs.Histories.{standing_push, settled_push, answers_push}
use Rattle.planner.proofs.Posed.{orderly}
use Rattle.planner.proofs.Searches.{marked, shows_strides, strides_within}

-- ---- what is shown, and what is told of it

-- what is rightly shown is rightly told
pub right : {C : Type 0} (p : Problem C) (n : ℕ) (shown : Option (Found C)) → n ≤ sets p → Shows p (search n shown) → Right p n (record { mark = mark_of (sets p) (search n shown); settled = n; shown = shown })
right p n None within shows = record {
  cheapest = λ x e. let wrong : ⊥ = grind (arith, e) in absurd wrong;
  shows_none = λ _. shows;
  none_shown = λ _. refl;
  marked = marked p (search n None) shows within;
}
right p n (Some y) within shows = record {
  cheapest = λ x e. let same : y ≡ x = grind (arith, e) in subst (Cheapest p n) same shows;
  shows_none = λ e. let wrong : ⊥ = grind (arith, e) in absurd wrong;
  none_shown = λ none. absurd (none y.number shows.within shows.passes);
  marked = marked p (search n (Some y)) shows within;
}

-- and the other way round
pub shown_right : {C : Type 0} (p : Problem C) (n : ℕ) (mark : Mark) (shown : Option (Found C)) → Right p n (record { mark = mark; settled = n; shown = shown }) → Shows p (search n shown)
shown_right p n mark None r = r.shows_none refl
shown_right p n mark (Some y) r = r.cheapest y refl

-- no more sets are settled than there are
pub marked_within : {C : Type 0} (p : Problem C) (n : ℕ) (mark : Mark) → Marked p n mark → n ≤ sets p
marked_within p n Open m = omega (arith, m)
marked_within p n Best m = omega (arith, m.0)
marked_within p n Nothing m = omega (arith, m.0)

-- a call made from one settled count is the same call made from an equal one
made_at : {C : Type 0} (p r : Problem C) (n m : ℕ) (allowance : ℕ) (answer : Progress) → p ≡ r → n ≡ m → Made p n allowance answer → Made r m allowance answer
made_at p r n m allowance answer e f made = subst (λ z. Made z m allowance answer) e (subst (λ k. Made p k allowance answer) f made)

-- a run between two searches that rightly show what they show is a plan call as the claim wants it
made_by : {C : Type 0} (p : Problem C) (x y : Search C) (allowance : ℕ) (answer : Progress) → Shows p x → Shows p y → Ran p x allowance answer y → Made p x.settled allowance answer
made_by p x y allowance answer before after ran =
    let same : y ≡ search answer.settled y.shown = λ i. search (sym ran.settled i) y.shown in
    record {
      before = x.shown;
      after = y.shown;
      right_before = before;
      right_after = subst (Shows p) same after;
      ran = subst (Ran p x allowance answer) same ran;
    }

-- states that agree in each part are the same
pub same_state : {Q C : Type 0} (x : State Q C) {s : System} {n : ℕ} → x.stands ≡ s → x.search.settled ≡ n → x ≡ record { stands = s; test = x.test; search = search n x.search.shown }
same_state x s n i = record { stands = s i; test = x.test; search = search (n i) x.search.shown }

-- equal systems and tests pose the same problem
same_problem : {Q C : Type 0} (q : tests.Ghosts Q) (t : Rates C) {s r : System} {test ask : Q} → s ≡ r → test ≡ ask → problem q t s test ≡ problem q t r ask
same_problem q t s e i = problem q t (s i) (e i)

module _ {Q C : Type 0} {q : tests.Ghosts Q} {t : Rates C} where
  -- a state that agrees with the events, and rightly shows what it shows, is led to by them
  pub led : (opening : System) (test : Q) (events : List Event) (x : State Q C) → x.stands ≡ standing opening events → x.test ≡ test → x.search.settled ≡ settled_by events → x.search.settled ≤ sets_of x.stands → Shows (sought q t x) x.search → Answers q t opening test 0 events → Led q t opening test events x
  led opening test events x stands asks settled within shows answers =
      let here : Right (sought q t x) x.search.settled (told x) = right (sought q t x) x.search.settled x.search.shown within shows in
      record {
        stands = stands;
        asks = asks;
        claim = record {
          settled = settled;
          right = subst (λ p. Right p (settled_by events) (told x)) (same_problem q t stands asks) (subst (λ n. Right (sought q t x) n (told x)) settled here);
          answers = answers;
        };
      }

  -- what is led to rightly shows what it shows
  pub led_shows : (opening : System) (test : Q) (events : List Event) (x : State Q C) → Led q t opening test events x → Shows (sought q t x) x.search × (x.search.settled ≤ sets_of x.stands)
  led_shows opening test events x h =
      let same = sym (same_problem q t h.stands h.asks) in
      let there : Right (sought q t x) (settled_by events) (told x) = subst (λ p. Right p (settled_by events) (told x)) same h.claim.right in
      let here : Right (sought q t x) x.search.settled (told x) = subst (λ n. Right (sought q t x) n (told x)) (sym h.claim.settled) there in
      (shown_right (sought q t x) x.search.settled _ x.search.shown here, marked_within (sought q t x) x.search.settled _ here.marked)

  -- a state that nothing but the events changed
  led_same : (opening : System) (test : Q) (events : List Event) (e : Event) (x : State Q C) → Led q t opening test events x → standing opening (events ++ (e ∷ [])) ≡ standing opening events → settled_by (events ++ (e ∷ [])) ≡ settled_by events → Answered q t (standing opening events) test (settled_by events) e → Led q t opening test (events ++ (e ∷ [])) x
  led_same opening test events e x h stands settled answered =
      let shows = led_shows opening test events x h in
      led opening test (events ++ (e ∷ [])) x (h.stands ∙ sym stands) h.asks (h.claim.settled ∙ sym settled) shows.1 shows.0 (answers_push q t opening test 0 events e h.claim.answers answered)

  -- a refused change
  pub leads_refused_change : (x y : State Q C) (c : Change) (f : RosterRefusal) → First roster_number (ChangeRule x.stands c) f → y ≡ x → Leads q t x (Changed c (Err f)) y
  leads_refused_change x y c f first is opening test events h =
      let e = Changed c (Err f) in
      let answered = subst (λ s. First roster_number (ChangeRule s c) f) h.stands first in
      subst (Led q t opening test (events ++ (e ∷ []))) (sym is) (led_same opening test events e x h (standing_push opening events e) (settled_push events e) answered)

  pub follows_refused_change : (x y : State Q C) (c : Change) (f : RosterRefusal) → InBounds x → First roster_number (ChangeRule x.stands c) f → y ≡ x → Follows q t x (Changed c (Err f)) y
  follows_refused_change x y c f bounds first is =
      record { happens = (first, is); leads = leads_refused_change x y c f first is; before = bounds; after = subst InBounds (sym is) bounds }

  -- a refused plan call
  pub leads_refused_plan : (x y : State Q C) (allowance : ℕ) (f : SearchRefusal) → First search_number (PlanRule allowance) f → y ≡ x → Leads q t x (Planned allowance (Err f)) y
  leads_refused_plan x y allowance f first is opening test events h =
      let e = Planned allowance (Err f) in
      subst (Led q t opening test (events ++ (e ∷ []))) (sym is) (led_same opening test events e x h (standing_push opening events e) (settled_push events e) first)

  pub follows_refused_plan : (x y : State Q C) (allowance : ℕ) (f : SearchRefusal) → InBounds x → First search_number (PlanRule allowance) f → y ≡ x → Follows q t x (Planned allowance (Err f)) y
  follows_refused_plan x y allowance f bounds first is =
      record { happens = (first, is); leads = leads_refused_plan x y allowance f first is; before = bounds; after = subst InBounds (sym is) bounds }

  module _ (laws : TestLaws q.passes) (order : AmountLaws t.none t.joined t.leq t.within) (one : (s : System) (i g : ℕ) → Keeps s → t.within 1 (t.priced s i g)) where
    pub leads : (x : State Q C) (e : Event) (y : State Q C) → Keeps x.stands → Happens q t x e y → Leads q t x e y
    leads x (Changed c (Ok u)) y keeps (kept, is) opening test events h =
        let e = Changed c (Ok u) in
        let new : State Q C = opened (left_by x.stands c) x.test in
        let stands : new.stands ≡ standing opening (events ++ (e ∷ [])) = ap (λ s. left_by s c) h.stands ∙ sym (standing_push opening events e) in
        let answered = subst (λ s. AllKept (ChangeRule s c)) h.stands kept in
        let fresh : Led q t opening test (events ++ (e ∷ [])) new =
        led opening test (events ++ (e ∷ [])) new stands h.asks (sym (settled_push events e)) (omega arith) (λ n less _. absurd (omega (arith, less))) (answers_push q t opening test 0 events e h.claim.answers answered) in
        subst (Led q t opening test (events ++ (e ∷ []))) (sym is) fresh
    leads x (Changed c (Err f)) y keeps (first, is) opening test events h = leads_refused_change x y c f first is opening test events h
    leads x (Planned allowance (Ok answer)) y keeps (kept, moved) opening test events h =
        let e = Planned allowance (Ok answer) in
        let before = led_shows opening test events x h in
        let ran = moved.ran in
        let shows : Shows (sought q t x) y.search = shows_strides (sought q t x) x.search answer.strides y.search (orderly q t laws order one x.stands x.test keeps) before.0 ran.strides in
        let within : y.search.settled ≤ sets_of x.stands = strides_within (sought q t x) x.search answer.strides y.search keeps.some_step before.1 ran.strides in
        let settled : y.search.settled ≡ settled_by (events ++ (e ∷ [])) = sym ran.settled ∙ sym (settled_push events e) in
        let made = made_at _ _ _ _ allowance answer (same_problem q t h.stands h.asks) h.claim.settled (made_by (sought q t x) x.search y.search allowance answer before.0 shows ran) in
        led opening test (events ++ (e ∷ [])) y (moved.stands ∙ (h.stands ∙ sym (standing_push opening events e))) (moved.test ∙ h.asks) settled (rw moved.stands within) (subst (λ p. Shows p y.search) (sym (same_problem q t moved.stands moved.test)) shows) (answers_push q t opening test 0 events e h.claim.answers (kept, made))
    leads x (Planned allowance (Err f)) y keeps (first, is) opening test events h = leads_refused_plan x y allowance f first is opening test events h

    -- and what happens is all that a call owes
    pub follows : (x : State Q C) (e : Event) (y : State Q C) → InBounds x → InBounds y → Happens q t x e y → Follows q t x e y
    follows x e y before after happens = record { happens = happens; leads = leads x e y before.keeps happens; before = before; after = after }

module _ {Q C : Type 0} (q : tests.Ghosts Q) (t : Rates C) where
  -- at the opening
  pub led_opening : (opening : System) (test : Q) → Led q t opening test [] (opened opening test)
  led_opening opening test = led opening test [] (opened opening test) refl refl refl (omega arith) (λ n less _. absurd (omega (arith, less))) tt

  -- a change of what stands, and the search as it was or started again, make up what happens to the planner
  pub happens_change : (x y : State Q C) (c : Change) (r : Result (Unit {0}) RosterRefusal) → Outcome roster_number (ChangeRule x.stands c) x.stands (left_by x.stands c) y.stands r → y.test ≡ x.test → results.MatchResult r (λ _. y.search ≡ start) (λ _. y.search ≡ x.search) → Happens q t x (Changed c r) y
  happens_change x y c (Ok u) (kept, stands) test same = (kept, λ i. record { stands = stands i; test = test i; search = same i })
  happens_change x y c (Err e) (first, stands) test same = (first, λ i. record { stands = stands i; test = test i; search = same i })
