use Rattle.book_file.proofs.Accepted.{largest_file}
use Rattle.book_file.proofs.Files.{long_files_read_alike_lem}
use Rattle.book_file.proofs.laws.long_files_read_alike.Goals as goal

pub returns : goal.returns
returns c = record { largest = largest_file; alike = long_files_read_alike_lem }
