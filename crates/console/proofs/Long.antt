-- Files that go on beyond the largest.
use Rattle.std.proofs.Common.{◌≡◌, ℕ, ◌+◌, List, length, take, Some, None, Option, refl, ◌∙◌, subst, ⊎_elim, arith, MatchOption}
use Rattle.std.proofs.lemmas.List.{take_all, length-take-le}
use Rattle.std.proofs.lemmas.Bool.{cases_lt}
use Rattle.grammar.specs.Limits.{max_file}
use Rattle.grammar.specs.declared.refusals.Refusal.{Refusal}
use Rattle.book_file.specs.Layout.{layout_fault}
use Rattle.book_file.proofs.Accepted.{largest_file}
use Rattle.book_file.proofs.Files.{long_files_read_alike_lem}
use Rattle.console.specs.Listings.{Told, LongFilesListAlike, refusal_row}

-- a front that is accepted is the whole
whole : (file : List ℕ) → layout_fault (take (max_file + 1) file) ≡ None → take (max_file + 1) file ≡ file
whole file e = ⊎_elim (λ h. take_all (max_file + 1) file (omega arith)) (λ h. absurd (omega (arith, largest_file.1 (take (max_file + 1) file) e, length-take-le (max_file + 1) file h))) (cases_lt (length file) (max_file + 1))

pub long_files_list_alike_lem : LongFilesListAlike
long_files_list_alike_lem file text listed =
    let front = take (max_file + 1) file in
    subst (λ o. MatchOption o (Told file text) (λ r. text ≡ refusal_row r)) (long_files_read_alike_lem file) (told (layout_fault front) refl listed)
  where
    told : (o : Option Refusal) → layout_fault (take (max_file + 1) file) ≡ o → MatchOption o (Told (take (max_file + 1) file) text) (λ r. text ≡ refusal_row r) → MatchOption o (Told file text) (λ r. text ≡ refusal_row r)
    told None e (pairs, lines, spelled, text_is) = (pairs, lines, spelled ∙ whole file e, text_is)
    told (Some r) e t = t
