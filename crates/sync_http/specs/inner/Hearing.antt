-- Beside specs/Hearing: words of private contracts and of proofs.
use Rattle.std.specs.Prelude.{ℕ, nat_lt, if◌then◌else◌, List, length, Result, Ok, Err}
use Rattle.httparse.specs.Grammar as grammar
use Rattle.sync_http.specs.declared.heads.Heard.{Heard}
use Rattle.sync_http.specs.declared.heads.Heard.TheVariants.{NotYet}
use Rattle.sync_http.specs.declared.fault.WireFault.{WireFault}
use Rattle.sync_http.specs.declared.fault.WireFault.TheVariants.{TooLarge}
use Rattle.sync_http.specs.Hearing.{most_bytes}

-- what is answered where more bytes may make a head
abbrev pub unfinished : {T : Type 0} → List ℕ → Result (Heard T) WireFault
unfinished bytes = if nat_lt (length bytes) most_bytes then Ok NotYet else Err TooLarge
