-- Lines of names: their items, and how one more of them is read.
use Rattle.std.proofs.Common.{◌≡◌, ℕ, zero, suc, ◌+◌, ◌<◌, ◌≤◌, cond, List, [], ◌∷◌, ◌++◌, map, length, get_or, take, drop, set, ◌≢◌, Some, None, Option, MatchOption, sym, refl, ap, ◌∙◌, subst, inl, inr, arith}
use Rattle.std.specs.Borrow.{Bor}
use Rattle.std.specs.List.{AllByRecursion, AllWithin, HoldsAt}
use Rattle.std.specs.Str.{bytes_eq}
use Rattle.std.proofs.ByRecursion.{All-from_get_or, All-get_or, All-map, All-push, All-weaker}
use Rattle.std.proofs.lemmas.List.{drop_more, get_or_default, get_or-map, get_or-take, length-drop, length-map, length-take, length_push, map_push, take_all, take_more, take_more_set}
use Rattle.model.specs.Lists.{Pairwise}
use Rattle.model.proofs.Lists.{pairwise_getD, pairwise_push}
use Rattle.text.specs.Lines.{space, Free, parts, joined}
use Rattle.text.proofs.Parting.{joined_parts, parts_free, parts_joined}
use Rattle.files.specs.declared.blocks.Block.{Block}
use Rattle.files.specs.declared.blocks.Block.TheVariants.{Switch, Steps, Tasks, Sections}
use Rattle.files.specs.Blocks.{names, width, name_of}
use Rattle.files.specs.Columns.{Adds, AddsNone}
use Rattle.files.specs.Layout.{Names}
use Rattle.files.proofs.Orders.{Apart}

-- ---- what an iterator has left of a list

pub next_at : {A : Type 0} (xs left rest : List A) (x d : A) (i : ℕ) → left ≡ drop i xs → left ≡ x ∷ rest → (i < length xs) × (get_or xs i d ≡ x) × (rest ≡ drop (i + 1) xs)
next_at xs left rest x d i e f =
    let lt : i < length xs = omega (arith, length-drop i xs, ap length (sym f ∙ e)) in
    let more = drop_more xs i d lt in
    (lt, cc, cc)

pub past_end : {A : Type 0} (xs left : List A) (i : ℕ) → left ≡ drop i xs → left ≡ [] → length xs ≤ i
past_end xs left i e f = omega (arith, length-drop i xs, ap length (sym e ∙ f))

-- ---- names

-- where a name stands among others
place : List (List ℕ) → List ℕ → ℕ
place [] x = 0
place (n ∷ ns) x = cond (bytes_eq n x) 0 (suc (place ns x))

placed : (b : Block) (k : ℕ) → k < width b → place (names b) (name_of b k) ≡ k
unfolding place
placed Switch zero lt = refl
placed Switch (suc k) lt = absurd (omega arith)
placed Steps zero lt = refl
placed Steps (suc zero) lt = refl
placed Steps (suc (suc k)) lt = absurd (omega arith)
placed Tasks zero lt = refl
placed Tasks (suc zero) lt = refl
placed Tasks (suc (suc zero)) lt = refl
placed Tasks (suc (suc (suc zero))) lt = refl
placed Tasks (suc (suc (suc (suc zero)))) lt = refl
placed Tasks (suc (suc (suc (suc (suc zero))))) lt = refl
placed Tasks (suc (suc (suc (suc (suc (suc k)))))) lt = absurd (omega arith)
placed Sections zero lt = refl
placed Sections (suc zero) lt = refl
placed Sections (suc (suc zero)) lt = refl
placed Sections (suc (suc (suc k))) lt = absurd (omega arith)

same_column : (b : Block) (j k : ℕ) → j < width b → k < width b → name_of b j ≡ name_of b k → j ≡ k
same_column b j k low lt e = sym (placed b j low) ∙ ap (place (names b)) e ∙ placed b k lt

-- a table that has the names of a block
abbrev pub Lists : Block → List (Bor (List ℕ)) → Type 0
Lists b table = map (λ n. n.now) table ≡ names b

table_some : {A : Type 0} (xs : List A) (k : ℕ) → k < length xs → A
table_some [] k lt = absurd (omega arith)
table_some (x ∷ xs) k lt = x

module _ (b : Block) (table : List (Bor (List ℕ))) (lists : Lists b table) where
  table_wide : length table ≡ width b
  table_wide = sym (length-map table (λ n. n.now)) ∙ ap length lists

  table_at : (k : ℕ) (d : Bor (List ℕ)) → k < width b → (get_or table k d).now ≡ name_of b k
  table_at k d lt = sym (get_or-map (λ n. n.now) table k d [] (omega (arith, table_wide))) ∙ ap (λ ns. get_or ns k []) lists

  -- the first name of the table that is the same is the column's
  pub column_of : (name : List ℕ) (r : Option ℕ)
      → MatchOption r (AllWithin (λ n. n.now ≢ name) table 0 (length table)) (λ k. (k < length table) × HoldsAt (λ n. n.now ≡ name) table k × AllWithin (λ n. n.now ≢ name) table 0 k)
      → MatchOption r ((k : ℕ) → k < width b → name ≢ name_of b k) (λ k. (k < width b) × (name ≡ name_of b k))
  column_of name None none = λ k lt e.
      let within : k < length table = omega (arith, table_wide) in
      let d = table_some table k within in
      none k d (omega arith) within (table_at k d lt ∙ sym e)
  column_of name (Some k) (within, is, _) =
      let lt : k < width b = omega (arith, table_wide) in
      let d = table_some table k within in
      (lt, sym (is d) ∙ table_at k d lt)

width_some : (b : Block) → 0 < width b
width_some Switch = omega arith
width_some Steps = omega arith
width_some Tasks = omega arith
width_some Sections = omega arith

pub width_few : (b : Block) → width b ≤ 6
width_few Switch = omega arith
width_few Steps = omega arith
width_few Tasks = omega arith
width_few Sections = omega arith

-- no name has a space
names_free : (b : Block) → AllByRecursion (Free space) (names b)
names_free Switch = parts_free space (joined space (names Switch))
names_free Steps = parts_free space (joined space (names Steps))
names_free Tasks = parts_free space (joined space (names Tasks))
names_free Sections = parts_free space (joined space (names Sections))

-- ---- a line that names the columns

module _ (b : Block) (order text : List ℕ) (is : Names b order text) where
  names_parts : parts space text ≡ map (name_of b) order
  names_parts =
      let long = length-map order (name_of b) in
      let free = All-weaker (λ k. k < width b) (λ k. Free space (name_of b k)) (λ k lt. All-get_or (Free space) (names b) k [] lt (names_free b)) order is.isorder.below in
      ap (parts space) is.written
      ∙ parts_joined space (map (name_of b) order) (λ e. omega (arith, ap length e, width_some b, is.isorder.whole)) (All-map (Free space) (name_of b) order free)

  pub names_count : length (parts space text) ≡ width b
  names_count = ap length names_parts ∙ length-map order (name_of b) ∙ is.isorder.whole

  name_at : (i : ℕ) → i < width b → get_or (parts space text) i [] ≡ name_of b (get_or order i 0)
  name_at i lt = ap (λ (ps : List (List ℕ)). get_or ps i []) names_parts ∙ get_or-map (name_of b) order i 0 [] (omega (arith, is.isorder.whole))

  below_at : (i : ℕ) → i < width b → get_or order i 0 < width b
  below_at i lt = All-get_or (λ k. k < width b) order i 0 (omega (arith, is.isorder.whole)) is.isorder.below

  names_apart : (i j : ℕ) → i < j → j < width b → get_or (parts space text) i [] ≡ get_or (parts space text) j [] → ⊥
  names_apart i j low lt e =
      let early : i < width b = omega arith in
      pairwise_getD Apart order i j 0 low (omega (arith, is.isorder.whole)) is.isorder.once
      (same_column b (get_or order i 0) (get_or order j 0) (below_at i early) (below_at j lt) (sym (name_at i early) ∙ e ∙ name_at j lt))

-- ---- reading one

-- the first items name these columns
pub record Named (b : Block) (seen : List ℕ) (items : List (List ℕ)) (i : ℕ) : Type 0 where
  pub whole : length seen ≡ i
  pub below : AllByRecursion (λ k. k < width b) seen
  pub once : Pairwise Apart seen
  pub named : map (name_of b) seen ≡ take i items

-- one more column behind those in the front of an array
pub named_more : (b : Block) (o item : List ℕ) (items : List (List ℕ)) (i k : ℕ) → i < length items → i < length o → Named b (take i o) items i → get_or items i [] ≡ item → Adds b (take i o) item k → Named b (take (i + 1) (set o i k)) items (i + 1)
named_more b o item items i k lt room is at (low, e, fresh) =
    let seen = take i o in
    let more = take_more items i [] lt in
    let was = is.named in
    let named : map (name_of b) (seen ++ (k ∷ [])) ≡ take (i + 1) items = map_push (name_of b) seen k ∙ cc in
    let all : Named b (seen ++ (k ∷ [])) items (i + 1) = record {
      whole = length_push seen k ∙ ap (λ n. n + 1) is.whole;
      below = All-push (λ j. j < width b) seen k is.below low;
      once = pairwise_push Apart seen k is.once (All-from_get_or (λ j. Apart j k) seen 0 (λ j within f. fresh (j, within, λ d. get_or_default seen j d 0 within ∙ f)));
      named = named;
    } in
    subst (λ (ks : List ℕ). Named b ks items (i + 1)) (sym (take_more_set o i k room)) all

-- a line with an item that adds no column names none in an order
pub named_none : (b : Block) (seen text : List ℕ) (i : ℕ) → i < width b → Named b seen (parts space text) i → AddsNone b seen (get_or (parts space text) i []) → (order : List ℕ) → Names b order text → ⊥
named_none b seen text i lt is (inl none) order line = none (get_or order i 0) (below_at b order text line i lt) (name_at b order text line i lt)
named_none b seen text i lt is (inr (k, low, e, (j, within, at))) order line =
    let early : j < i = omega (arith, is.whole) in
    let ps = parts space text in
    let again : get_or ps j [] ≡ name_of b k =
    sym (get_or-take i ps j [] early)
    ∙ ap (λ (qs : List (List ℕ)). get_or qs j []) (sym is.named)
    ∙ get_or-map (name_of b) seen j 0 [] within
    ∙ ap (name_of b) (at 0) in
    names_apart b order text line j i early lt (again ∙ sym e)

pub named_all : (b : Block) (seen text : List ℕ) (i : ℕ) → length (parts space text) ≡ width b → drop i (parts space text) ≡ [] → Named b seen (parts space text) i → (i ≡ width b) × Names b seen text
named_all b seen text i count end is =
    let ps = parts space text in
    let past : i ≡ length ps = omega (arith, length-drop i ps, ap length end, is.whole, ap length is.named, length-map seen (name_of b), length-take i ps) in (
      past ∙ count,
      record {
        isorder = record { whole = is.whole ∙ past ∙ count; below = is.below; once = is.once };
        written = sym (joined_parts space text) ∙ ap (joined space) (sym (is.named ∙ take_all i ps (omega arith)));
      },
    )
