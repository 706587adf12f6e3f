-- A file that has the bytes of an image that was spelled holds it.
use Rattle.std.proofs.Common.{◌≡◌, ◌∷◌, [], List, ℕ, length, sym, ◌∙◌, ap, subst, length-append}
use Rattle.disk_model.specs.Device.{File, IsSettled}
use Rattle.journal.specs.Image.{Head, ReadsAs, up_to_gate}
use Rattle.journal.specs.Journal.{IsExtent}
use Rattle.journal.specs.Spelled.{HoldsSpelled, Spelled, Spells, extent_of}

pub spelled_extent : (head : Head) (bodies : List (List ℕ)) (spelled : Spelled) → Spells head bodies spelled
    → IsExtent 2 head bodies (extent_of spelled)
spelled_extent head bodies spelled s = record {
  all = ap length s.bytes ∙ length-append (up_to_gate 2 head bodies) (0 ∷ []);
  limit = s.limit;
}

pub spelled_reads : (head : Head) (bodies : List (List ℕ)) (spelled : Spelled) → Spells head bodies spelled
    → ReadsAs 2 head bodies spelled.bytes
spelled_reads head bodies spelled s = record {
  gate = 0;
  rest = [];
  header = s.header;
  fit = s.fit;
  shut = λ e. absurd (cc e);
  split = s.bytes;
}

pub spelled_held : (spelled : Spelled) (file : File) → file.seen ≡ spelled.bytes → IsSettled file
    → HoldsSpelled spelled (extent_of spelled) file
spelled_held spelled file written durable head bodies s = record {
  reads = subst (ReadsAs 2 head bodies) (sym written) (spelled_reads head bodies spelled s);
  extent = spelled_extent head bodies spelled s;
  durable = durable;
}
