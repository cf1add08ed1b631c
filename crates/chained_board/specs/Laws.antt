-- What holds of the tables. Carried by the function of src/laws.rt.
use Rattle.std.specs.Prelude.{◌≡◌}
use Rattle.grammar.specs.Limits.{byte_strand_count, max_pairs}
use Rattle.board.specs.Meaning.{clean}
use Rattle.chained_board.specs.Chains.{Tables, Sound, meaning_of}

-- some tables are sound and mean a clean board
abbrev pub CleanTables : Type 0
CleanTables = (t : Tables) × (Sound t byte_strand_count × (meaning_of t byte_strand_count ≡ clean max_pairs))
