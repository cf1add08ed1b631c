use Rattle.std.proofs.lemmas.Result.{err_from_is_err_and}
use Rattle.book_file.proofs.RoundTrips.{not_decoded, not_encoded, encoded_back}
use Rattle.book_file.proofs.round_trip.encode_decoded.Goals as goal

pub returns-in_err-content : goal.returns-in_err-content
returns-in_err-content c =
    let p = err_from_is_err_and c.from_residual.result c.from_residual.ensures.1 in
    rw (p.1, p.2) (not_decoded c.args.bytes.now c.args.buffer.now c.in_err-content.field-0.0 c.in_err-content.ensures)

pub returns-in_err-encode : goal.returns-in_err-encode
returns-in_err-encode c =
    let p = err_from_is_err_and c.from_residual-in_err-encode.result c.from_residual-in_err-encode.ensures.1 in
    rw (p.1, p.2) (not_encoded c.in_ok-content.ensures c.deref.ensures.value c.deref-2.ensures.value c.in_err-encode.ensures)

pub returns : goal.returns
returns c = encoded_back c.in_ok-content.ensures c.deref.ensures.value c.deref-2.ensures.value c.in_ok-encode.ensures
