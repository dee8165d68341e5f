-- Lines of values: how a row is filled, and when it is a row.
use Rattle.std.proofs.Common.{◌≡◌, ℕ, ◌+◌, ◌<◌, ◌≢◌, List, [], map, length, set, None, Option, refl, sym, ap, ◌∙◌, subst, inr, arith, below_more}
use Rattle.std.proofs.ByRecursion.{All-get_or}
use Rattle.std.proofs.lemmas.List.{ext_get_or, get_or-map, get_or-set_other, get_or-set_same, length-map}
use Rattle.model.proofs.Lists.{pairwise_getD}
use Rattle.text.specs.Lines.{space, parts, joined}
use Rattle.text.proofs.Parting.{joined_parts}
use Rattle.files.specs.declared.blocks.Block.{Block}
use Rattle.files.specs.Blocks.{width}
use Rattle.files.specs.Faults.{at_item}
use Rattle.files.specs.Layout.{IsOrder, IsValue, Fits, Row, RowFault, Valued, cell, value_at, item_at, column_at}
use Rattle.files.proofs.Orders.{Apart, has_each}

-- the first items are values, and the row has them at their columns
abbrev pub Filled : Block → List ℕ → List ℕ → List (Option ℕ) → ℕ → Type 0
Filled b order text row i = (j : ℕ) → j < i → IsValue b (column_at order j) (item_at text j) (value_at row (column_at order j))

module _ (b : Block) (order : List ℕ) (is : IsOrder (width b) order) where
  column_below : (i : ℕ) → i < width b → column_at order i < width b
  column_below i lt = All-get_or (λ k. k < width b) order i 0 (omega (arith, is.whole)) is.below

module _ (b : Block) (order text : List ℕ) (row : List (Option ℕ)) (is : IsOrder (width b) order) (long : length row ≡ width b) where
  filled_more : (i : ℕ) (v : Option ℕ) → i < width b → Filled b order text row i → IsValue b (column_at order i) (item_at text i) v → Filled b order text (set row (column_at order i) v) (i + 1)
  filled_more i v lt filled here =
      let within : column_at order i < length row = omega (arith, column_below b order is i lt, long) in
      below_more _ _
      (λ j low.
      let apart : column_at order j ≢ column_at order i = pairwise_getD Apart order j i 0 low (omega (arith, is.whole)) is.once in
      subst (λ (w : Option ℕ). IsValue b (column_at order j) (item_at text j) w) (sym (get_or-set_other row (column_at order i) (column_at order j) v None apart)) (filled j low))
      (subst (λ (w : Option ℕ). IsValue b (column_at order i) (item_at text i) w) (sym (get_or-set_same row (column_at order i) v None within)) here)

  module _ (i column : ℕ) (item : List ℕ) (lt : i < width b) (on : column_at order i ≡ column) (at : item_at text i ≡ item) (filled : Filled b order text row i) where
    -- one item more
    pub filled_on : (v : Option ℕ) → IsValue b column item v → Filled b order text (set row column v) (i + 1)
    filled_on v here = subst (λ (k : ℕ). Filled b order text (set row k v) (i + 1)) on (filled_more i v lt filled (rw (on, at) here))

    -- an item that is no value, behind others that are
    pub row_wrong : (n : ℕ) → length (parts space text) ≡ width b → ((v : Option ℕ) → IsValue b column item v → ⊥) → RowFault b order n text (at_item n (i + 1))
    row_wrong n count none =
        let wrong : Valued b order text i → ⊥ = λ w. none w.0 (rw (on, at) at w.1) in
        inr (count, (i, record { within = lt; wrong = wrong; before = λ j low. (value_at row (column_at order j), filled j low) }, refl))

  module _ (count : length (parts space text) ≡ width b) (filled : Filled b order text row (width b)) where
    row_fits : (k : ℕ) → k < width b → Fits b k (value_at row k)
    row_fits k lt =
        let (j, low, at) = has_each (width b) order is k lt in
        let fits : Fits b (column_at order j) (value_at row (column_at order j)) = (filled j (omega (arith, is.whole))).0 in
        subst (λ (n : ℕ). Fits b n (value_at row n)) (at 0) fits

    row_items : parts space text ≡ map (λ k. cell (value_at row k)) order
    row_items =
        let f : ℕ → List ℕ = λ k. cell (value_at row k) in
        ext_get_or [] (parts space text) (map f order) (count ∙ sym (length-map order f ∙ is.whole))
        (λ i lt. (filled i (omega (arith, count))).1 ∙ sym (get_or-map f order i 0 [] (omega (arith, is.whole, count))))

    pub row_filled : Row b order row text
    row_filled = record {
      whole = long;
      fits = row_fits;
      written = sym (joined_parts space text) ∙ ap (joined space) row_items;
    }
