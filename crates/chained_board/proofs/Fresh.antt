-- A board without points.
use Rattle.std.proofs.Common.{◌≡◌, ℕ, zero, suc, ◌+◌, ◌<◌, List, [], ◌∷◌, ◌++◌, map, length, get_or, replicate, None, Option, sym, refl, ap, ◌∙◌, subst, arith}
use mathlib.Core.Path.{fun_ext}
use Rattle.std.specs.List.{range_with_len}
use Rattle.std.proofs.lemmas.List.{length-replicate, replicate_more}
use Rattle.std.proofs.lemmas.List.FromFn.{length-map-range_with_len, get_or-map-range_with_len, map-range_with_len_more}
use Rattle.grammar.specs.Limits.{byte_strand_count, max_pairs, max_strands}
use Rattle.grammar.specs.declared.strands.BackRank.{BackRank}
use Rattle.board.specs.Meaning.{Meaning, Proper, count, clean}
use Rattle.board.proofs.Meanings.{count-clean, clean_proper}
use Rattle.chained_board.specs.Laws.{CleanTables}
use Rattle.chained_board.specs.Chains.{Tables, Sound, meaning_of, row_of, place_of, at_of}
use Rattle.chained_board.specs.declared.chained_boards.Slot.{Slot}
use Rattle.chained_board.proofs.Tables.{tables_from, same_tables}

none_at : (n k : ℕ) → get_or {A = Option ℕ} (replicate n None) k None ≡ None
none_at zero k = refl
none_at (suc n) zero = refl
none_at (suc n) (suc k) = none_at n k

abbrev pub itself : ℕ → ℕ
itself k = k

-- the row of a number
abbrev pub numbered : ℕ → BackRank
numbered k = record { 0 = k }

-- the tables of a board with n rows and no points
abbrev pub fresh : ℕ → Tables
fresh n = record { slots = []; order = map itself (range_with_len 0 n); rows = map numbered (range_with_len 0 n); heads = replicate n None; labels = replicate max_strands None }

fresh_sound : (n columns : ℕ) → n ≡ byte_strand_count → columns ≡ byte_strand_count → Sound (fresh n) columns × (meaning_of (fresh n) columns ≡ clean max_pairs)
fresh_sound n columns is wide =
    let t : Tables = fresh n in
    let n_is : length t.order ≡ n = length-map-range_with_len itself 0 n in
    let chain : (r : ℕ) → r < n → get_or t.order r 0 ≡ r = λ r h. get_or-map-range_with_len itself 0 n r r 0 h (omega arith) in
    let row : (c : ℕ) → c < n → row_of t.rows c ≡ c = λ c h. ap (λ (k : BackRank). k.0) (get_or-map-range_with_len numbered 0 n c c (numbered 0) h (omega arith)) in
    let at_is : at_of t ≡ (λ l. None) = fun_ext (λ l. ap (place_of [] t.rows) (none_at max_strands l)) in
    let rows_are : length t.order ≡ byte_strand_count = n_is ∙ is in
    let means : meaning_of t columns ≡ clean max_pairs = cc in (
      record {
        paired = record {
          order_long = refl;
          rows_long = length-map-range_with_len numbered 0 n ∙ sym n_is;
          chain_low = λ r h. omega (arith, chain r (omega arith));
          row_low = λ c h. omega (arith, row c (omega arith));
          back = λ r h. ap (λ (k : ℕ). row_of t.rows k) (chain r (omega arith)) ∙ row r (omega arith);
          forth = λ c h. ap (λ (k : ℕ). get_or t.order k 0) (row c (omega arith)) ∙ chain c (omega arith);
        };
        filed = record {
          labels_long = length-replicate {A = Option ℕ} max_strands None;
          chain_of = λ s h. absurd (omega arith);
          found = λ s h. absurd (omega arith);
          named = λ l s e. let none = none_at max_strands l in absurd (cc);
        };
        linked = record {
          heads_long = length-replicate {A = Option ℕ} n None ∙ sym n_is;
          head = λ c h. none_at n c;
          link = λ s h. absurd (omega arith);
        };
        counted = ap count means ∙ count-clean max_pairs;
        proper = let P : Meaning → Type 0 = Proper in subst P (sym means) (clean_proper max_pairs (omega arith));
      },
      means,
    )

-- one row more
pub range_more : {X : Type 0} {xs ys : List X} (f : ℕ → X) (n : ℕ) → ys ≡ xs ++ f n ∷ [] → xs ≡ map f (range_with_len 0 n) → ys ≡ map f (range_with_len 0 (n + 1))
range_more f n more is = more ∙ (ap (λ (zs : List _). zs ++ f n ∷ []) is ∙ sym (map-range_with_len_more f 0 n n (omega arith)))

-- one chain more that has no point
pub none_more : {xs ys : List (Option ℕ)} (n : ℕ) → ys ≡ xs ++ None ∷ [] → xs ≡ replicate n None → ys ≡ replicate (n + 1) None
none_more n more is = more ∙ (ap (λ (zs : List (Option ℕ)). zs ++ None ∷ []) is ∙ replicate_more n None)

pub made_fresh : {n columns : ℕ} {slots : List Slot} {order : List ℕ} {rows : List BackRank} {heads labels : List (Option ℕ)} → slots ≡ [] → order ≡ map itself (range_with_len 0 n) → rows ≡ map numbered (range_with_len 0 n) → heads ≡ replicate n None → labels ≡ replicate max_strands None → n ≡ byte_strand_count → columns ≡ byte_strand_count →
    Sound (record { slots = slots; order = order; rows = rows; heads = heads; labels = labels }) columns × (meaning_of (record { slots = slots; order = order; rows = rows; heads = heads; labels = labels }) columns ≡ clean max_pairs)
made_fresh {n = n} {columns = columns} ss os rs hs ls is wide = same_tables (tables_from ss os rs hs ls) (fresh_sound n columns is wide)

pub clean_tables : CleanTables
clean_tables = (fresh byte_strand_count, fresh_sound byte_strand_count byte_strand_count refl refl)
