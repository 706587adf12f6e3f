-- What is answered of the parts of a head.
use Rattle.std.specs.Prelude.{◌≡◌, Result, Ok, Err}
use Rattle.sync_http.specs.declared.fault.WireFault.{WireFault}
use Rattle.sync_http.specs.declared.fault.WireFault.TheVariants.{TooLarge, BadHead, BadPath, BadMethod, Chunked}
use Rattle.sync_http.specs.declared.fault.WireFault.TheVariants.{NoLength, Memory}

-- this is answered of a whole head, or memory ran out
abbrev pub Answers : {T : Type 0} → Result T WireFault → Result T WireFault → Type 0
Answers said (Ok x) = said ≡ Ok x
Answers said (Err TooLarge) = ⊥
Answers said (Err BadHead) = said ≡ Err BadHead
Answers said (Err BadPath) = said ≡ Err BadPath
Answers said (Err BadMethod) = said ≡ Err BadMethod
Answers said (Err Chunked) = said ≡ Err Chunked
Answers said (Err NoLength) = said ≡ Err NoLength
Answers said (Err Memory) = Unit {0}
