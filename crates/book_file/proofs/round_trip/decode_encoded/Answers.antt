use Rattle.std.proofs.Common.{take, ap, arith}
use Rattle.book_file.proofs.RoundTrips.{decoded_back}
use Rattle.book_file.proofs.round_trip.decode_encoded.Goals as goal

pub returns : goal.returns
returns c =
    let after = c.encode.new.buffer in
    decoded_back c.in_ok-size.ensures _ (ap (λ n. take n after) (omega arith)) c.decode.result c.decode.ensures
