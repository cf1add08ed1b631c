-- What each call makes of a list board: it stays whole, and its meaning changes as the rules say.
use Rattle.std.proofs.Common.{◌≡◌, ℕ, ◌+◌, ◌-◌, ◌<◌, min, false, cond, eqb, List, ◌++◌, map, length, get_or, take, drop, is_some, Some, Ok, Err, inl, inr, sym, refl, ap, ◌∙◌, ⊎_elim, arith, length-set}
use mathlib.Core.Path.{fun_ext}
use Rattle.std.proofs.lemmas.List.{take_more_set, take_at, take_all, get_or-take, length-map, length-append, length-take, length-take-le, length-drop}
use Rattle.std.proofs.lemmas.Bool.{cases_lt}
use Rattle.std.specs.Option.{option_map}
use Rattle.grammar.specs.Limits.{max_strands}
use Rattle.grammar.specs.declared.refusals.Refusal.TheVariants.{OffBoard}
use Rattle.grammar.specs.declared.strands.Strand.{Strand}
use Rattle.board.specs.Answering.{Locates, ranked}
use Rattle.board.specs.Meaning.{placed, widened, moved_point}
use Rattle.board.proofs.Meanings.{clean_proper, count-clean, placed_as, widened_as}
use Rattle.board.specs.declared.points.Point.{Point}
use Rattle.list_board.specs.Listing.{Listing, Whole, Follows, IndexOf, records, place_in, zero_point, distinct, meaning, fresh, with_point, with_opening, moved_record}
use Rattle.list_board.proofs.Places.{held_point, place_more, distinct_more, place_moved, distinct_moved, held_are_moved, place_of}

-- a new board
pub fresh_whole : (table : List Point) → Whole (fresh table)
fresh_whole table =
    record {
      fits = omega arith;
      once = refl;
      counted = count-clean (length (take max_strands table));
      proper = clean_proper (length (take max_strands table)) (omega (arith, length-take max_strands table));
    }

pub front_is : (table : List Point) (k : ℕ) → k ≡ min (length table) max_strands → take (k - 0) table ≡ take max_strands table
front_is table k is =
    ⊎_elim
    (λ long. let same : k - 0 ≡ max_strands = omega arith in ap (λ (n : ℕ). take n table) same)
    (λ short. take_all (k - 0) table (omega arith) ∙ sym (take_all max_strands table short))
    (cases_lt max_strands (length table))

-- a point more
pub put_meaning : (b : Listing) (p : Point) → b.filled < length b.table → is_some (place_in (records b) p.label.0) ≡ false → meaning (with_point b p) ≡ placed (meaning b) p.row.0 p.column.0 p.label.0
put_meaning b p room free =
    let long = length-set b.table b.filled p in
    let at : place_in (records (with_point b p)) ≡ (λ label. cond (eqb p.label.0 label) (Some (p.row.0, p.column.0)) (place_in (records b) label)) = ap place_in (take_more_set b.table b.filled p room) ∙ fun_ext (λ label. place_more (records b) p label free) in
    cc

pub put_whole : (b : Listing) (p : Point) → b.filled < length b.table → is_some (place_in (records b) p.label.0) ≡ false → p.row.0 < b.rows → p.column.0 < b.columns → p.label.0 < max_strands → Whole b → Whole (with_point b p)
put_whole b p room free on_row on_column low whole =
    let held = placed_as (meaning b) (meaning (with_point b p)) p.row.0 p.column.0 p.label.0 b.filled (put_meaning b p room free) on_row on_column low free room whole.counted whole.proper in
    record {
      fits = omega (arith, length-set b.table b.filled p);
      once = ap distinct (take_more_set b.table b.filled p room) ∙ distinct_more (records b) p whole.once free;
      counted = held.0;
      proper = held.1;
    }

-- a row and a column opened
open_records : (b : Listing) (row column : ℕ) → Whole b → records (with_opening b row column) ≡ map (moved_record row column) (records b)
open_records b row column whole = take_at (map (moved_record row column) (records b)) (drop b.filled b.table) b.filled (length-map (records b) (moved_record row column) ∙ length-take-le b.filled b.table whole.fits)

open_length : (b : Listing) (row column : ℕ) → Whole b → length (with_opening b row column).table ≡ length b.table
open_length b row column whole =
    length-append (map (moved_record row column) (records b)) (drop b.filled b.table) ∙ omega (arith, length-map (records b) (moved_record row column), length-take-le b.filled b.table whole.fits, length-drop b.filled b.table, whole.fits)

pub open_meaning : (b : Listing) (row column : ℕ) → Whole b → meaning (with_opening b row column) ≡ widened (meaning b) row column
open_meaning b row column whole =
    let long = open_length b row column whole in
    let at : place_in (records (with_opening b row column)) ≡ (λ label. moved_point row column (place_in (records b) label)) = ap place_in (open_records b row column whole) ∙ fun_ext (place_moved row column (records b)) in
    cc

pub open_whole : (b : Listing) (row column : ℕ) → b.rows < max_strands → b.columns < max_strands → Whole b → Whole (with_opening b row column)
open_whole b row column rows columns whole =
    let held = widened_as (meaning b) (meaning (with_opening b row column)) row column b.filled (open_meaning b row column whole) rows columns whole.counted whole.proper in
    record {
      fits = omega (arith, open_length b row column whole, whole.fits);
      once = ap distinct (open_records b row column whole) ∙ (distinct_moved row column (records b) ∙ whole.once);
      counted = held.0;
      proper = held.1;
    }

-- the table after each filled record is changed
pub open_table : (b : Listing) (row column : ℕ) (front : List Point) → Whole b → front ≡ map (held_point row column) (take (b.filled - 0) b.table) → front ++ drop (b.filled - 0) b.table ≡ (with_opening b row column).table
open_table b row column front whole is =
    let same : b.filled - 0 ≡ b.filled = omega arith in
    let held : map (held_point row column) (records b) ≡ map (moved_record row column) (records b) = held_are_moved row column (records b) whole.once (λ label r c at. let on = whole.proper.on_board label r c at in (omega (arith, on.0, whole.proper.rows_few), omega (arith, on.1, whole.proper.columns_few))) in
    cc

-- the board after each filled record is changed
pub opened : (b : Listing) (row column : ℕ) (front : List Point) → Whole b → front ≡ map (held_point row column) (take (b.filled - 0) b.table) → record { table = front ++ drop (b.filled - 0) b.table; filled = b.filled; rows = b.rows + 1; columns = b.columns + 1 } ≡ with_opening b row column
opened b row column front whole is =
    let with_table : List Point → Listing = λ t. record { table = t; filled = b.filled; rows = b.rows + 1; columns = b.columns + 1 } in
    ap with_table (open_table b row column front whole is)

-- what a call keeps, by what it leaves
pub stays : (b : Listing) → Follows b b
stays b = (Err OffBoard, inl (zero_point, refl))

pub follows_opening : (b after : Listing) (row column : ℕ) → after ≡ with_opening b row column → Follows b after
follows_opening b after row column e = (Ok tt, inr (row, (column, e)))

-- the record at a label's index tells where its point stands
pub located : (b : Listing) (label : Strand) (i : ℕ) → Whole b → IndexOf (records b) label.0 (Some i) → Locates (meaning b) label (Some ((get_or b.table i zero_point).row, (get_or b.table i zero_point).column))
located b label i whole is =
    let low : i < b.filled = omega (arith, is.0, length-take-le b.filled b.table whole.fits) in
    let at : get_or (records b) i zero_point ≡ get_or b.table i zero_point = get_or-take b.filled b.table i zero_point low in
    let place = place_of (records b) i zero_point whole.once is.0 in
    sym (ap (option_map ranked) (ap (place_in (records b)) (sym is.1) ∙ (place ∙ ap (λ (p : Point). Some (p.row.0, p.column.0)) at)))
