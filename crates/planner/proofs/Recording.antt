-- The record of a list of calls, one entry after the other.
use Rattle.std.proofs.Common.{◌≡◌, ℕ, ◌+◌, ◌<◌, ◌≤◌, List, [], ◌∷◌, ◌++◌, map, length, get_or, take, sym, refl, ◌∙◌, subst}
use Rattle.std.proofs.lemmas.List.{append_assoc, append-nil, map_push, take_all, take_more}
use Rattle.model.specs.System.{System}
use Rattle.schedulability.specs.declared.test.Test as tests
use Rattle.planner.specs.Rates.{Rates}
use Rattle.planner.specs.declared.events.Call.{Call}
use Rattle.planner.specs.declared.events.Event.{Event}
use Rattle.planner.specs.declared.replay.Entry.{Entry}
use Rattle.planner.specs.Calls.{call_of}
use Rattle.planner.specs.Claim.{Claim, Led, Leads, Named, told, told_by}
use Rattle.planner.specs.Events.{standing}
use Rattle.planner.specs.Record.{Throughout, Recorded}
use Rattle.planner.specs.State.{State, opened}

abbrev pub event_of : {C : Type 0} → Entry C → Event
event_of e = e.event

module _ {Q C : Type 0} (q : tests.Ghosts Q) (t : Rates C) where
  -- what an entry owes after the events before it
  abbrev Owed : System → Q → List Event → Entry C → Type 0
  Owed opening test earlier e = Claim q t opening test (earlier ++ (e.event ∷ [])) (told_by e.findings) × Named (standing opening (earlier ++ (e.event ∷ []))) e.findings

  -- before the call of number n: what is recorded, and the planner that it led to
  pub record Recording (x : State Q C) (calls : List Call) (n : ℕ) (entries : List (Entry C)) (y : State Q C) : Type 0 where
    pub led : Led q t x.stands x.test (map event_of entries) y
    pub claims : Throughout q t x.stands x.test [] entries
    pub in_turn : map (λ e. call_of e.event) entries ≡ take n calls

module _ {Q C : Type 0} {q : tests.Ghosts Q} {t : Rates C} where
  -- the claim at one entry more
  throughout_push : (opening : System) (test : Q) (earlier : List Event) (entries : List (Entry C)) (e : Entry C) → Throughout q t opening test earlier entries → Owed q t opening test (earlier ++ map event_of entries) e → Throughout q t opening test earlier (entries ++ (e ∷ []))
  throughout_push opening test earlier [] e all owed =
      let last = subst (λ z. Owed q t opening test z e) (append-nil earlier) owed in
      (last.0, last.1, tt)
  throughout_push opening test earlier (d ∷ entries) e all owed =
      let same = sym (append_assoc earlier (d.event ∷ []) (map event_of entries)) in
      (all.0, all.1, throughout_push opening test (earlier ++ (d.event ∷ [])) entries e all.2 (subst (λ z. Owed q t opening test z e) same owed))

  -- no call yet: the planner as it was opened
  pub recorded_none : (s : System) (test : Q) (x : State Q C) (calls : List Call) (entries : List (Entry C)) → entries ≡ [] → x ≡ opened s test → Led q t s test [] x → Recording q t x calls 0 entries x
  recorded_none s test x calls entries none is led =
      let here = subst (λ z. Led q t z.stands z.test [] x) (sym is) led in
      subst (λ z. Recording q t x calls 0 z x) (sym none) (record { led = here; claims = tt; in_turn = refl })

  pub recorded_more : (x : State Q C) (calls : List Call) (n : ℕ) (d : Call) (entries more : List (Entry C)) (y z : State Q C) (e : Entry C) → n < length calls → Recording q t x calls n entries y → call_of e.event ≡ get_or calls n d → Leads q t y e.event z → told_by e.findings ≡ told z → Named z.stands e.findings → more ≡ entries ++ (e ∷ []) → Recording q t x calls (n + 1) more z
  recorded_more x calls n d entries more y z e less h call leads tells named is =
      let led : Led q t x.stands x.test (map event_of entries ++ (e.event ∷ [])) z = leads x.stands x.test (map event_of entries) h.led in
      subst (λ all. Recording q t x calls (n + 1) all z) (sym is) (record {
        led = subst (λ events. Led q t x.stands x.test events z) (sym (map_push event_of entries e)) led;
        claims = throughout_push x.stands x.test [] entries e h.claims (subst (Claim q t x.stands x.test (map event_of entries ++ (e.event ∷ []))) (sym tells) led.claim, subst (λ s. Named s e.findings) led.stands named);
        in_turn = map_push (λ e. call_of e.event) entries e ∙ ((λ i. h.in_turn i ++ (call i ∷ [])) ∙ sym (take_more calls n d less));
      })

  -- after the last
  pub recorded_all : (opening : System) (test : Q) (x : State Q C) (calls : List Call) (n : ℕ) (entries : List (Entry C)) (y : State Q C) → x ≡ opened opening test → length calls ≤ n → Recording q t x calls n entries y → Recorded q t opening test calls entries
  recorded_all opening test x calls n entries y is all h = record {
    in_turn = h.in_turn ∙ take_all n calls all;
    claims = subst (λ z. Throughout q t z.stands z.test [] entries) is h.claims;
  }
