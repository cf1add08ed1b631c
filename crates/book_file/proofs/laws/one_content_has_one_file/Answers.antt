use Rattle.book_file.proofs.Accepted.{accepted_bytes_are_files}
use Rattle.book_file.proofs.Files.{file_tells_content, files_are_accepted}
use Rattle.book_file.proofs.laws.one_content_has_one_file.Goals as goal

pub returns : goal.returns
returns c = record { tells = file_tells_content; accepted = files_are_accepted; nothing_else = accepted_bytes_are_files }
