use Rattle.std.proofs.Common.{◌∙◌, arith, rules}
use Rattle.std.proofs.lemmas.Result.{err_from_is_err_and}
use Rattle.book_file.proofs.Files.{header_faults_lem, opened, opened_lengths, too_short}
use Rattle.book_file.proofs.decode.open.Goals as goal

pub returns-in_default : goal.returns-in_default
returns-in_default c = too_short c.args.bytes.now (search rules)

pub returns-in_err-check : goal.returns-in_err-check
returns-in_err-check c =
    let p = err_from_is_err_and c.from_residual.result c.from_residual.ensures.1 in
    rw (p.1, p.2) (header_faults_lem c.args.bytes.now c.in-Some.header c.in-Some.rest.now c.in-Some.ensures ∙ c.in_err-check.ensures)

pub returns : goal.returns
returns c =
    let cut = c.split_at.ensures.by_index.0 in
    opened_lengths (opened c.args.bytes.now c.in-Some.header c.in-Some.rest.now _ _ c.in-Some.ensures c.in_ok-check.ensures cut (omega (arith, c.split_at.ensures.front_len)))
