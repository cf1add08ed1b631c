-- What each call makes of the tables, that they stay sound, and what they mean then.
use Rattle.std.proofs.Common.{◌≡◌, ℕ, ◌+◌, ◌<◌, ◌≤◌, false, [], ◌∷◌, ◌++◌, map, length, get_or, set, is_some, Ok, Some, None, Option, List, sym, refl, ap, ◌∙◌, subst, arith}
use mathlib.Core.Path.{fun_ext}
use Rattle.std.proofs.lemmas.List.{length_push, length-map, get_or_read}
use Rattle.std.proofs.lemmas.List.Edits.{length-insert}
use Rattle.std.specs.List.{insert}
use Rattle.grammar.specs.Limits.{max_pairs, max_strands}
use Rattle.grammar.specs.declared.strands.BackRank.{BackRank}
use Rattle.grammar.specs.declared.strands.ForeRank.{ForeRank}
use Rattle.board.specs.Meaning.{Meaning, stands, placed, widened}
use Rattle.board.specs.Answering.{Sizes, settled, put_refusal, widen_fault, widen_refusal, Widens, Puts}
use Rattle.board.specs.declared.points.Point.{Point}
use Rattle.board.specs.declared.sizes.Size.{Size}
use Rattle.board.proofs.Meanings.{placed_as, widened_as, accepted, widen_clear, free, wide}
use Rattle.chained_board.specs.Chains.{Tables, Sound, meaning_of, slot_at, row_of, place_of, at_of, Paired, Filed, Linked}
use Rattle.chained_board.specs.declared.chained_boards.Slot.{Slot}
use Rattle.chained_board.proofs.Tables.{tables_from, same_tables}
use Rattle.chained_board.proofs.Puts.{place_some, put_filed, put_linked, put_at}
use Rattle.chained_board.proofs.Widens.{row_moved, column_moved, opened, shifted, rows_fit, columns_fit, widen_paired, widen_filed, widen_linked, widen_at}

abbrev pub added : Tables → Slot → Tables
added t p = record { slots = t.slots ++ p ∷ []; order = t.order; rows = t.rows; heads = set t.heads p.chain (Some (length t.slots)); labels = set t.labels p.label.0 (Some (length t.slots)) }

abbrev pub wider : Tables → ℕ → ℕ → Tables
wider t a b = record { slots = map (shifted b) t.slots; order = insert t.order a (length t.order); rows = map (opened a) t.rows ++ record { 0 = a } ∷ []; heads = t.heads ++ None ∷ []; labels = t.labels }

-- the point of a slot is where the slot says
pub slot_place : (t : Tables) (columns s : ℕ) → Sound t columns → s < length t.slots → at_of t (slot_at t.slots s).label.0 ≡ Some (row_of t.rows (slot_at t.slots s).chain, (slot_at t.slots s).column.0)
slot_place t columns s w h = ap (place_of t.slots t.rows) (w.filed.found s h)

-- so its column is on the board
pub slot_column : (t : Tables) (columns s : ℕ) → Sound t columns → s < length t.slots → (slot_at t.slots s).column.0 < columns
slot_column t columns s w h = (w.proper.on_board (slot_at t.slots s).label.0 (row_of t.rows (slot_at t.slots s).chain) (slot_at t.slots s).column.0 (slot_place t columns s w h)).1

-- the chain of a row has a head
pub head_low : (t : Tables) (columns row chain : ℕ) → Sound t columns → row < length t.order → chain ≡ get_or t.order row 0 → chain < length t.heads
head_low t columns row chain w h is = omega (arith, is, w.paired.chain_low row h, w.linked.heads_long)

-- a label that is filed leads to a slot, and the slot's chain to a row
pub filed_low : (t : Tables) (columns label s : ℕ) (o : Option ℕ) → Sound t columns → o ≡ get_or t.labels label None → o ≡ Some s → (s < length t.slots) × ((slot_at t.slots s).chain < length t.rows)
filed_low t columns label s o w is found =
    let at : (s < length t.slots) × ((slot_at t.slots s).label.0 ≡ label) = w.filed.named label s (sym is ∙ found) in
    (at.0, omega (arith, w.filed.chain_of s at.0, w.paired.rows_long))

pub add_step : (t : Tables) (columns row : ℕ) (p : Slot) → Sound t columns → row < length t.order → p.chain ≡ get_or t.order row 0 → p.next ≡ get_or t.heads p.chain None → p.column.0 < columns → p.label.0 < max_strands → stands (meaning_of t columns) p.label.0 ≡ false → length t.slots < max_pairs →
    Sound (added t p) columns × (meaning_of (added t p) columns ≡ placed (meaning_of t columns) row p.column.0 p.label.0)
add_step t columns row p w rh ch nx column label free few =
    let m : Meaning = meaning_of t columns in
    let low : p.chain < length t.order = omega (arith, ch, w.paired.chain_low row rh) in
    let at_row : row_of t.rows p.chain ≡ row = ap (λ (k : ℕ). row_of t.rows k) ch ∙ w.paired.back row rh in
    let none : is_some (get_or t.labels p.label.0 None) ≡ false = sym (place_some t.slots t.rows (get_or t.labels p.label.0 None)) ∙ free in
    let ats : at_of (added t p) ≡ (placed m row p.column.0 p.label.0).at = fun_ext (λ l. put_at _ t.slots t.rows t.labels p row l label at_row w.filed) in
    let means : meaning_of (added t p) columns ≡ placed m row p.column.0 p.label.0 = ap (λ (at : ℕ → Option (ℕ × ℕ)). record { rows = length t.order; columns = columns; capacity = max_pairs; at = at }) ats in
    let held = placed_as m (meaning_of (added t p) columns) row p.column.0 p.label.0 (length t.slots) means rh column label free few w.counted w.proper in (
      record {
        paired = w.paired;
        filed = put_filed _ t.slots t.labels p low label none w.filed;
        linked = put_linked _ t.slots t.heads p low nx w.linked;
        counted = held.0 ∙ sym (length_push t.slots p);
        proper = held.1;
      },
      means,
    )

pub widen_step : (t : Tables) (columns a b : ℕ) → Sound t columns → length t.order < max_strands → columns < max_strands → a ≤ length t.order →
    Sound (wider t a b) (columns + 1) × (meaning_of (wider t a b) (columns + 1) ≡ widened (meaning_of t columns) a b)
widen_step t columns a b w rows few le =
    let m : Meaning = meaning_of t columns in
    let n : ℕ = length t.order in
    let u : Tables = wider t a b in
    let long : length u.order ≡ n + 1 = length-insert t.order a n le in
    let same : length u.slots ≡ length t.slots = length-map t.slots (shifted b) in
    let ats : at_of u ≡ (widened m a b).at = fun_ext (λ l. widen_at n a b t.slots t.rows t.labels l w.paired.rows_long w.filed) in
    let means : meaning_of u (columns + 1) ≡ widened m a b = cc in
    let held = widened_as m (meaning_of u (columns + 1)) a b (length t.slots) means rows few w.counted w.proper in
    let R : ℕ → Type 0 = λ k. Paired k u.order u.rows in
    let F : ℕ → Type 0 = λ k. Filed k u.slots u.labels in
    let L : ℕ → Type 0 = λ k. Linked k u.slots u.heads in (
      record {
        paired = subst R (sym long) (widen_paired n t.order t.rows a le w.paired);
        filed = subst F (sym long) (widen_filed n b t.slots t.labels w.filed);
        linked = subst L (sym long) (widen_linked n b t.slots t.heads t.labels w.filed w.linked);
        counted = held.0 ∙ sym same;
        proper = held.1;
      },
      means,
    )

-- the chain that a put goes to has a head
pub put_low : {t : Tables} {columns chain : ℕ} (point : Point) → Sound t columns → put_refusal (meaning_of t columns) point.row.0 point.column.0 point.label.0 ≡ None → chain ≡ get_or t.order point.row.0 chain → chain < length t.heads
put_low {t = t} {columns = columns} {chain = chain} point w none order =
    let row : point.row.0 < length t.order = (free (meaning_of t columns) point.row.0 point.column.0 point.label.0 none).0 in
    head_low t columns point.row.0 chain w row (get_or_read t.order point.row.0 chain row order 0)

-- what a put writes that is not refused
pub put_wrote : {t : Tables} {columns s chain : ℕ} {slots : List Slot} {next : Option ℕ} (point : Point) → Sound t columns → put_refusal (meaning_of t columns) point.row.0 point.column.0 point.label.0 ≡ None → chain ≡ get_or t.order point.row.0 chain → next ≡ get_or t.heads chain next → s ≡ length t.slots → slots ≡ t.slots ++ record { chain = chain; column = point.column; label = point.label; next = next } ∷ [] →
    Sound (record { slots = slots; order = t.order; rows = t.rows; heads = set t.heads chain (Some s); labels = set t.labels point.label.0 (Some s) }) columns
    × Puts (meaning_of t columns) point (Ok tt) (meaning_of (record { slots = slots; order = t.order; rows = t.rows; heads = set t.heads chain (Some s); labels = set t.labels point.label.0 (Some s) }) columns)
put_wrote {t = t} {columns = columns} {s = s} {chain = chain} {slots = slots} {next = next} point w none order reads new ss =
    let m : Meaning = meaning_of t columns in
    let may = free m point.row.0 point.column.0 point.label.0 none in
    let p : Slot = record { chain = chain; column = point.column; label = point.label; next = next } in
    let ch : chain ≡ get_or t.order point.row.0 0 = get_or_read t.order point.row.0 chain may.0 order 0 in
    let nx : next ≡ get_or t.heads chain None = get_or_read t.heads chain next (head_low t columns point.row.0 chain w may.0 ch) reads None in
    let step = add_step t columns point.row.0 p w may.0 ch nx may.1 may.2 may.3 (omega (arith, may.4, w.counted)) in
    let held = same_tables (tables_from ss refl refl (ap (λ (k : ℕ). set t.heads chain (Some k)) new) (ap (λ (k : ℕ). set t.labels point.label.0 (Some k)) new)) step in
    (held.0, accepted _ m (placed m point.row.0 point.column.0 point.label.0) _ none held.1)

-- what a widening writes that the size allows
pub widen_wrote : {t : Tables} {columns n : ℕ} {size : Size} {done : Unit {0}} {slots : List Slot} {order : List ℕ} {moved rows : List BackRank} {heads : List (Option ℕ)} (row : BackRank) (column : ForeRank) → Sound t columns → Sizes (meaning_of t columns) size → Ok done ≡ settled (widen_fault size row.0 column.0) →
    n ≡ length t.order → slots ≡ map (column_moved column.0) t.slots → order ≡ insert t.order row.0 n → moved ≡ map (row_moved row.0) t.rows → rows ≡ moved ++ row ∷ [] → heads ≡ t.heads ++ None ∷ [] →
    Sound (record { slots = slots; order = order; rows = rows; heads = heads; labels = t.labels }) (columns + 1)
    × Widens (meaning_of t columns) row column (Ok tt) (meaning_of (record { slots = slots; order = order; rows = rows; heads = heads; labels = t.labels }) (columns + 1))
widen_wrote {t = t} {columns = columns} row column w sizes told is ss os moves rs hs =
    let m : Meaning = meaning_of t columns in
    let none : widen_refusal m row.0 column.0 ≡ None = widen_clear m row.0 column.0 sizes told in
    let may = wide m row.0 column.0 none in
    let slots_are = ss ∙ columns_fit column.0 t.slots (λ s h. omega (arith, slot_column t columns s w h, may.1)) in
    let order_is = os ∙ ap (insert t.order row.0) is in
    let moved_are = moves ∙ rows_fit row.0 t.rows (λ c h. omega (arith, w.paired.row_low c (omega (arith, w.paired.rows_long)), may.0)) in
    let rows_are = rs ∙ ap (λ (xs : List BackRank). xs ++ row ∷ []) moved_are in
    let held = same_tables (tables_from slots_are order_is rows_are hs refl) (widen_step t columns row.0 column.0 w may.0 may.1 may.2) in
    (held.0, accepted _ m (widened m row.0 column.0) _ none held.1)
