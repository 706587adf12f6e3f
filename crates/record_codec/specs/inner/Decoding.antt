-- Beside specs/Decoding: words of private contracts and of proofs.
use Rattle.std.specs.Prelude.{◌≡◌, ℕ, List, Result, Ok, Err}
use Rattle.record_fields.specs.Table.{Text}
use Rattle.record_fields.specs.Fields.{whole, ◌>>=◌}
use Rattle.record_codec.specs.Bodies.{Recorded, at_end, step}
use Rattle.record_fields.specs.Reading.{Stops}
use Rattle.record_codec.specs.declared.decoding.Decoded.{Decoded}
use Rattle.record_fields.specs.declared.format.Format.{Format}
use Rattle.record_fields.specs.declared.stop.Stop.{Stop}
use Rattle.record_codec.specs.Decoding.{recorded}

-- private: by the number of bytes that are left
abbrev pub read_whole : Format → List Text → List ℕ → Result Recorded ℕ
read_whole format us body = (step format).read (whole us body) >>= at_end

abbrev pub Records : Result Recorded ℕ → Result Decoded Stop → Type 0
Records read (Ok d) = read ≡ Ok (recorded d)
Records read (Err e) = Stops read e
