-- What a phase of loading answers, from what its reading and its check gave.
use Rattle.std.proofs.Common.{◌≡◌, ◌≤◌, ◌<◌, ◌+◌, ◌-◌, ℕ, zero, suc, List, [], ◌∷◌, length, get_or, drop, take, Result, Ok, Err, refl, sym, ap, subst, ◌∙◌, arith}
use Rattle.std.proofs.lemmas.List.{length-drop, get_or-drop, get_or-take}
use Rattle.lt_layout.specs.Phases.{AreBytes}
use Rattle.std.specs.Prelude.{IfErr, IfOk}
use Rattle.lt_rec.specs.declared.fault.Fault.{Fault}
use Rattle.lt_rec.specs.declared.fault.FormatError.{FormatError}
use Rattle.lt_rec.specs.declared.fault.FormatError.TheVariants as block_errors
use Rattle.lt_rec.specs.Reading.{Reads, Gives}
use Rattle.lt_tablet.specs.declared.errors.ReadError.{ReadError}
use Rattle.lt_tablet.specs.declared.errors.ReadError.TheVariants as read_errors
use Rattle.lt_tablet.specs.Causes.{IsNoBad, IsOfFile, Refuses, Loads, named, named_block}

pub no_bad_refuses : {Y : Type 0} (why : ReadError) (read : Result Y ℕ) → IsNoBad why → Refuses why read
no_bad_refuses (read_errors.Bad file at) read h = absurd h
no_bad_refuses read_errors.Fault read h = tt
no_bad_refuses read_errors.NoMemory read h = tt

pub no_bad_names : (why : ReadError) (file : ℕ) → IsNoBad why → IsOfFile file why
no_bad_names (read_errors.Bad other at) file h = absurd h
no_bad_names read_errors.Fault file h = tt
no_bad_names read_errors.NoMemory file h = tt

pub named_loads : {X Y : Type 0} (view : X → Y) (file : ℕ) (r : Result X Fault) (read : Result Y ℕ) → Reads view r read → Loads view (named file r) read
named_loads view file (Ok x) read h = h
named_loads view file (Err fault) read h = h

pub named_names : {X : Type 0} (file : ℕ) (r : Result X Fault) → IfErr (named file r) (λ why. IsOfFile file why)
named_names file (Ok x) = tt
named_names file (Err fault) = refl

pub named_ok : {X : Type 0} (P : X → Type 0) (file : ℕ) (r : Result X Fault) → IfOk r P → IfOk (named file r) P
named_ok P file (Ok x) h = h
named_ok P file (Err fault) h = tt

pub block_loads : {X Y : Type 0} (view : X → Y) (file : ℕ) (r : Result X FormatError) (read : Result Y ℕ) → Gives view r read → Loads view (named_block file r) read
block_loads view file (Ok x) read h = h
block_loads view file (Err (block_errors.Bad at)) read h = h
block_loads view file (Err block_errors.NoMemory) read h = tt

pub block_names : {X : Type 0} (file : ℕ) (r : Result X FormatError) → IfErr (named_block file r) (λ why. IsOfFile file why)
block_names file (Ok x) = tt
block_names file (Err (block_errors.Bad at)) = refl
block_names file (Err block_errors.NoMemory) = tt

pub block_ok : {X : Type 0} (P : X → Type 0) (file : ℕ) (r : Result X FormatError) → IfOk r P → IfOk (named_block file r) P
block_ok P file (Ok x) h = h
block_ok P file (Err (block_errors.Bad at)) h = tt
block_ok P file (Err block_errors.NoMemory) h = tt

abbrev ok_of : {X : Type 0} → X → Result X ReadError
ok_of x = Ok x

abbrev err_of : {X : Type 0} → ReadError → Result X ReadError
err_of why = Err why

-- from a value that was named
pub named_value : {X Y : Type 0} (view : X → Y) (file : ℕ) (x : X) (r : Result X Fault) (read : Result Y ℕ) → ok_of x ≡ named file r → Reads view r read → read ≡ Ok (view x)
named_value view file x r read e h = let P : Result _ ReadError → Type 0 = λ q. Loads view q read in subst P (sym e) (named_loads view file r read h)

-- from a fault that was named
pub named_fault : {X Y : Type 0} (view : X → Y) (file : ℕ) (why : ReadError) (r : Result X Fault) (read : Result Y ℕ) → err_of {X = X} why ≡ named file r → Reads view r read → Refuses why read
named_fault view file why r read e h = let P : Result _ ReadError → Type 0 = λ q. Loads view q read in subst P (sym e) (named_loads view file r read h)

pub named_answer : {X Y : Type 0} (view : X → Y) (file : ℕ) (q : Result X ReadError) (r : Result X Fault) (read : Result Y ℕ) → q ≡ named file r → Reads view r read → Loads view q read
named_answer view file q r read e h = let P : Result _ ReadError → Type 0 = λ s. Loads view s read in subst P (sym e) (named_loads view file r read h)

pub block_answer : {X Y : Type 0} (view : X → Y) (file : ℕ) (q : Result X ReadError) (r : Result X FormatError) (read : Result Y ℕ) → q ≡ named_block file r → Gives view r read → Loads view q read
block_answer view file q r read e h = let P : Result _ ReadError → Type 0 = λ s. Loads view s read in subst P (sym e) (block_loads view file r read h)

-- bytes that were read
pub known_bytes : (bytes given slice : List ℕ) (at len : ℕ) → AreBytes 0 (length slice) slice → slice ≡ given → given ≡ take len (drop at bytes) → length given ≡ len → AreBytes at (at + len) bytes
known_bytes bytes given slice at len h s g n i ge lt =
    let there : at + (i - at) ≡ i = omega arith in
    let same : get_or slice (i - at) 0 ≡ get_or bytes i 0 =
    ap (λ (l : List ℕ). get_or l (i - at) 0) (s ∙ g)
    ∙ (get_or-take len (drop at bytes) (i - at) 0 (omega arith)
    ∙ (get_or-drop at bytes (i - at) 0 ∙ ap (λ (k : ℕ). get_or bytes k 0) there)) in
    subst (λ (v : ℕ). v < 256) same (h (i - at) (omega arith) (omega (arith, lt, ap length s, n)))

-- all that is behind an offset
pub all_behind : (bytes : List ℕ) (at len : ℕ) → length bytes ≡ at + len → take len (drop at bytes) ≡ drop at bytes
all_behind bytes at len n = take_all (drop at bytes) len (omega (arith, n, length-drop at bytes))
  where
    take_all : (xs : List ℕ) (k : ℕ) → length xs ≤ k → take k xs ≡ xs
    take_all [] zero le = refl
    take_all [] (suc k) le = refl
    take_all (x ∷ xs) zero le = absurd (omega (arith, le))
    take_all (x ∷ xs) (suc k) le = ap (λ (ys : List ℕ). x ∷ ys) (take_all xs k (omega (arith, le)))
