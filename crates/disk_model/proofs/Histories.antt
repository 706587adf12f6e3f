-- The log of a disk in memory: one call more, and what stood at each moment.
use Rattle.std.proofs.Common.{◌≡◌, ℕ, zero, suc, ◌+◌, ◌<◌, ◌≤◌, List, [], ◌∷◌, ◌++◌, length, get_or, take, drop, refl}
use Rattle.std.proofs.Common.{sym, ◌∙◌, ap, subst, arith}
use Rattle.std.proofs.lemmas.List.{take-append-drop, take_more, drop_more}
use Rattle.disk_model.specs.Disk.{Unsynced, IsCrashImage, settled}
use Rattle.disk_model.specs.Device.{Moment, moment, alone}
use Rattle.disk_model.specs.Log.{undone, before, step, through, reached, moments, now_of, past_of}
use Rattle.disk_model.specs.declared.calls.Call.{Call}
use Rattle.disk_model.specs.declared.calls.Call.TheVariants.{Sync}

pub before-push : (cs : List Call) (c : Call) (file : List ℕ) → before (cs ++ c ∷ []) file ≡ before cs (undone c file)
before-push [] c file = refl
before-push (x ∷ cs) c file = ap (undone x) (before-push cs c file)

pub through-push : {S : Type 0} (f : Call → List ℕ → S → S) (s : S) (cs : List Call) (c : Call) (file : List ℕ)
    → through f s (cs ++ c ∷ []) file ≡ f c file (through f s cs (undone c file))
through-push f s [] c file = refl
through-push f s (x ∷ cs) c file =
    ap (λ (l : List ℕ). through f (f x l s) (cs ++ c ∷ []) file) (before-push cs c file)
    ∙ through-push f (f x (before cs (undone c file)) s) cs c file

pub moments-push : (u : Unsynced) (cs : List Call) (c : Call) (file : List ℕ)
    → moments u (cs ++ c ∷ []) file ≡ moments u cs (undone c file) ++ moment (reached u cs (undone c file)) alone ∷ []
moments-push u [] c file = refl
moments-push u (x ∷ cs) c file =
    ap (λ (f : List ℕ). moment u alone ∷ moments (step x f u) (cs ++ c ∷ []) file) (before-push cs c file)
    ∙ ap (λ (ms : List Moment). moment u alone ∷ ms) (moments-push (step x (before cs (undone c file)) u) cs c file)

-- one call more, from what a read gave before it
pub now-push : (log : List Call) (c : Call) (old new : List ℕ) → undone c new ≡ old
    → now_of (log ++ c ∷ []) new ≡ step c new (now_of log old)
now-push log c old new e =
    ap (λ (f : List ℕ). reached (settled f) (log ++ c ∷ []) new) (before-push log c new ∙ ap (before log) e)
    ∙ through-push step (settled (before log old)) log c new
    ∙ ap (λ (f : List ℕ). step c new (reached (settled (before log old)) log f)) e

pub past-push : (log : List Call) (c : Call) (old new : List ℕ) → undone c new ≡ old
    → past_of (log ++ c ∷ []) new ≡ past_of log old ++ moment (now_of log old) alone ∷ []
past-push log c old new e =
    ap (λ (f : List ℕ). moments (settled f) (log ++ c ∷ []) new) (before-push log c new ∙ ap (before log) e)
    ∙ moments-push (settled (before log old)) log c new
    ∙ ap (λ (f : List ℕ). moments (settled (before log old)) log f
    ++ moment (reached (settled (before log old)) log f) alone ∷ []) e

pub length-moments : (u : Unsynced) (cs : List Call) (file : List ℕ) → length (moments u cs file) ≡ length cs
length-moments u [] file = refl
length-moments u (c ∷ cs) file = ap suc (length-moments (step c (before cs file) u) cs file)

pub before-append : (cs ds : List Call) (file : List ℕ) → before (cs ++ ds) file ≡ before cs (before ds file)
before-append [] ds file = refl
before-append (c ∷ cs) ds file = ap (undone c) (before-append cs ds file)

-- what stood there before the first k calls and the rest
pub before-split : (cs : List Call) (k : ℕ) (file : List ℕ)
    → before (take k cs) (before (drop k cs) file) ≡ before cs file
before-split cs k file = sym (before-append (take k cs) (drop k cs) file)
    ∙ ap (λ (l : List Call). before l file) (take-append-drop k cs)

-- what a crash at the k-th of these moments may leave, and behind them all this
abbrev at_moment : List Moment → Unsynced → ℕ → Unsynced
at_moment past now k = (get_or past k (now, ([], []))).0

-- the k-th moment lies after the first k calls
pub lost_at-moments : (u : Unsynced) (cs : List Call) (file : List ℕ) (k : ℕ) → k ≤ length cs
    → at_moment (moments u cs file) (reached u cs file) k ≡ reached u (take k cs) (before (drop k cs) file)
lost_at-moments u [] file zero h = refl
lost_at-moments u [] file (suc k) h = absurd (omega (arith, h))
lost_at-moments u (c ∷ cs) file zero h = refl
lost_at-moments u (c ∷ cs) file (suc k) h =
    lost_at-moments (step c (before cs file) u) cs file k (omega (arith, h))
    ∙ ap (λ (f : List ℕ). reached (step c f u) (take k cs) (before (drop k cs) file)) (sym (before-split cs k file))

pub through-append : {S : Type 0} (f : Call → List ℕ → S → S) (s : S) (cs ds : List Call) (file : List ℕ)
    → through f s (cs ++ ds) file ≡ through f (through f s cs (before ds file)) ds file
through-append f s [] ds file = refl
through-append f s (c ∷ cs) ds file =
    ap (λ (l : List ℕ). through f (f c l s) (cs ++ ds) file) (before-append cs ds file)
    ∙ through-append f (f c (before cs (before ds file)) s) cs ds file

-- the same for a log that was added to
pub now-logged : (log more : List Call) (c : Call) (old new : List ℕ) → more ≡ log ++ c ∷ [] → undone c new ≡ old
    → now_of more new ≡ step c new (now_of log old)
now-logged log more c old new e u = ap (λ (l : List Call). now_of l new) e ∙ now-push log c old new u

pub past-logged : (log more : List Call) (c : Call) (old new : List ℕ) → more ≡ log ++ c ∷ [] → undone c new ≡ old
    → past_of more new ≡ past_of log old ++ moment (now_of log old) alone ∷ []
past-logged log more c old new e u = ap (λ (l : List Call). past_of l new) e ∙ past-push log c old new u

pub image-logged : (log more : List Call) (c : Call) (old new : List ℕ) → more ≡ log ++ c ∷ [] → undone c new ≡ old
    → IsCrashImage (step c new (now_of log old)) new → IsCrashImage (now_of more new) new
image-logged log more c old new e u i = subst (λ (v : Unsynced). IsCrashImage v new)
    (sym (now-logged log more c old new e u)) i

-- a sync settles all that was before it: it makes of each state what it makes of the file
pub through-since : {S : Type 0} (f : Call → List ℕ → S → S) (begin : List ℕ → S)
    → ((file : List ℕ) (s : S) → f Sync file s ≡ begin file)
    → (log : List Call) (n m : ℕ) (d : Call) (file : List ℕ) → n < length log → m ≡ n + 1 → get_or log n d ≡ Sync
    → through f (begin (before log file)) log file ≡ through f (begin (before (drop m log) file)) (drop m log) file
through-since {S = S} f begin sync log n m d file h next e =
    let rest = drop (n + 1) log in let first = begin (before log file) in
    let split : log ≡ (take n log ++ Sync ∷ []) ++ rest =
    sym (take-append-drop (n + 1) log)
    ∙ ap (λ (cs : List Call). cs ++ rest) (take_more log n d h ∙ ap (λ (c : Call). take n log ++ c ∷ []) e) in
    ap (λ (l : List Call). through f first l file) split
    ∙ through-append f first (take n log ++ Sync ∷ []) rest file
    ∙ ap (λ (s : S). through f s rest file)
    (through-push f first (take n log) Sync (before rest file)
    ∙ sync (before rest file) (through f first (take n log) (before rest file)))
    ∙ ap (λ (k : ℕ). through f (begin (before (drop k log) file)) (drop k log) file) (sym next)

-- the k-th moment of a disk in memory
pub lost_at-past : (log : List Call) (file : List ℕ) (k : ℕ) → k ≤ length log
    → at_moment (past_of log file) (now_of log file) k ≡ now_of (take k log) (before (drop k log) file)
lost_at-past log file k h =
    lost_at-moments (settled (before log file)) log file k h
    ∙ ap (λ (f : List ℕ). reached (settled f) (take k log) (before (drop k log) file)) (sym (before-split log k file))

-- a loop over the calls, one call on
pub through-more : {S : Type 0} (f : Call → List ℕ → S → S) (s : S) (cs : List Call) (i : ℕ) (c : Call) (file : List ℕ)
    → i < length cs → c ≡ get_or cs i c
    → through f s (take (i + 1) cs) (before (drop (i + 1) cs) file)
    ≡ f c (before (drop (i + 1) cs) file) (through f s (take i cs) (before (drop i cs) file))
through-more f s cs i c file h e =
    let rest = before (drop (i + 1) cs) file in
    ap (λ (l : List Call). through f s l rest) (take_more cs i c h ∙ ap (λ (x : Call). take i cs ++ x ∷ []) (sym e))
    ∙ through-push f s (take i cs) c rest
    ∙ ap (λ (l : List Call). f c rest (through f s (take i cs) (before l file)))
    (sym (drop_more cs i c h ∙ ap (λ (x : Call). x ∷ drop (i + 1) cs) (sym e)))
