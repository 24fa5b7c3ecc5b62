-- Hashes of stems, totals and the last key, as records come one after the other.
use Rattle.std.proofs.Common.{◌≡◌, ℕ, zero, suc, ◌<◌, ◌≤◌, Bool, true, false, not, cond, List, [], ◌∷◌, ◌++◌, length, Ok, refl, sym, ap, ◌∙◌, append_assoc, arith}
use Rattle.std.specs.Prelude.{Option, Some, None}
use Rattle.std.specs.Option.{option_map}
use Rattle.std.proofs.lemmas.List.{append-nil}
use Rattle.lt_rec.specs.Record.{Record, stem_of}
use Rattle.lt_bloom.specs.Hash.{hash_of}
use Rattle.lt_block.specs.Spelling.{last_key}
use Rattle.lt_rec.proofs.Reading.{IsBytes}
use Rattle.lt_layout.specs.Spelling.{Entry, Totals, differs, hashes_from, totals_of}
use Rattle.lt_layout.specs.Reading.{are_alike, own_block_at}
use Rattle.lt_layout.specs.Surveying.{Found, found_in, last_of}
use Rattle.lt_layout.proofs.Own.{own_block_takes}
use Rattle.lt_layout.proofs.Blocks.{last_is}
use Rattle.lt_layout.proofs.Words.{alike_differs}

abbrev step : Option (List ℕ) → List ℕ → List ℕ
step before stem = cond (differs before stem) (hash_of stem ∷ []) []

stem_before : Option (List ℕ) → List Record → Option (List ℕ)
stem_before before [] = before
stem_before before (r ∷ recs) = stem_before (Some (stem_of r.key)) recs

stem_last : (r : Record) (recs : List Record) → stem_before (Some (stem_of r.key)) recs ≡ option_map stem_of (last_of (r ∷ recs))
unfolding stem_before
stem_last r [] = refl
stem_last r (s ∷ recs) = stem_last s recs

stem_of_last : (recs : List Record) → stem_before None recs ≡ option_map stem_of (last_of recs)
unfolding stem_before
stem_of_last [] = refl
stem_of_last (r ∷ recs) = stem_last r recs

hashes_push : (before : Option (List ℕ)) (recs : List Record) (r : Record) → hashes_from before (recs ++ r ∷ []) ≡ hashes_from before recs ++ step (stem_before before recs) (stem_of r.key)
unfolding stem_before
hashes_push before [] r = tail (differs before (stem_of r.key)) (hash_of (stem_of r.key))
  where
    tail : (b : Bool) (h : ℕ) → cond b (h ∷ []) [] ++ [] ≡ cond b (h ∷ []) []
    tail true h = refl
    tail false h = refl
hashes_push before (x ∷ recs) r =
    ap (λ (hs : List ℕ). step before (stem_of x.key) ++ hs) (hashes_push (Some (stem_of x.key)) recs r)
    ∙ sym (append_assoc (step before (stem_of x.key)) (hashes_from (Some (stem_of x.key)) recs) (step (stem_before (Some (stem_of x.key)) recs) (stem_of r.key)))

-- a record more
pub hashes_more : (recs : List Record) (r : Record) → hashes_from None (recs ++ r ∷ []) ≡ hashes_from None recs ++ cond (differs (option_map stem_of (last_of recs)) (stem_of r.key)) (hash_of (stem_of r.key) ∷ []) []
hashes_more recs r = hashes_push None recs r ∙ ap (λ (o : Option (List ℕ)). hashes_from None recs ++ step o (stem_of r.key)) (stem_of_last recs)

abbrev made : Totals → List ℕ → Found
made totals hashes = record { totals = totals; hashes = hashes }

pub found_by : (recs : List Record) (t : Totals) (hashes : List ℕ) → t ≡ totals_of recs → hashes ≡ hashes_from None recs → made t hashes ≡ found_in recs
found_by recs t hashes s h = ap (λ (v : Totals). made v hashes) s ∙ ap (made (totals_of recs)) h

pub hashes_next : (recs : List Record) (r : Record) (stem : List ℕ) (is_new : Bool) (old hashes : List ℕ) → stem_of r.key ≡ stem → is_new ≡ differs (option_map stem_of (last_of recs)) stem → old ≡ hashes_from None recs
    → hashes ≡ old ++ cond is_new (hash_of stem ∷ []) [] → hashes ≡ hashes_from None (recs ++ r ∷ [])
hashes_next recs r stem is_new old hashes m b o h =
    h
    ∙ (ap (λ (v : List ℕ). v ++ cond is_new (hash_of stem ∷ []) []) o
    ∙ (ap (λ (v : Bool). hashes_from None recs ++ cond v (hash_of stem ∷ []) []) b
    ∙ (ap (λ (v : List ℕ). hashes_from None recs ++ step (option_map stem_of (last_of recs)) v) (sym m)
    ∙ sym (hashes_more recs r))))

pub last_of_push : (recs : List Record) (r : Record) → last_of (recs ++ r ∷ []) ≡ Some r.key
last_of_push [] r = refl
last_of_push (x ∷ []) r = refl
last_of_push (x ∷ (y ∷ recs)) r = last_of_push (y ∷ recs) r

pub last_of_append : (xs ys : List Record) (key : List ℕ) → last_of ys ≡ Some key → last_of (xs ++ ys) ≡ Some key
last_of_append [] ys key h = h
last_of_append (x ∷ []) [] key h = absurd cc
last_of_append (x ∷ []) (y ∷ ys) key h = h
last_of_append (x ∷ (z ∷ xs)) ys key h = last_of_append (z ∷ xs) ys key h

last_of_key : (r : Record) (recs : List Record) → last_of (r ∷ recs) ≡ Some (last_key [] (r ∷ recs))
last_of_key r [] = refl
last_of_key r (s ∷ recs) = last_of_key s recs

-- the last record of an entry's block has the entry's last key
pub own_last : (t : Totals) (e : Entry) (bytes : List ℕ) (own : List Record) → IsBytes bytes → length bytes ≤ 65536 → 0 < e.count → own_block_at t e bytes ≡ Ok own → last_of own ≡ Some e.last
own_last t e bytes own fits short some q =
    let found = own_block_takes t e bytes own fits short some q in
    ended own found.block.some ∙ ap (λ (k : List ℕ). Some k) (last_is t e [] own found.block.some found.suit)
  where
    ended : (recs : List Record) → 0 < length recs → last_of recs ≡ Some (last_key [] recs)
    ended [] some = absurd (omega (arith, some))
    ended (r ∷ recs) some = last_of_key r recs

-- whether the next record's stem is new: the first of a block is asked, of the others it was seen
pub starts : (done : ℕ) (recs front : List Record) (before : Option (List ℕ)) (last key stem : List ℕ) (alike is_new : Bool) → before ≡ last_of recs → (done ≡ 0 → front ≡ []) → (0 < done → (last_of front ≡ Some last) × (8 ≤ length last)) → 8 ≤ length key → stem ≡ stem_of key → alike ≡ are_alike last key
    → (done ≡ 0 → is_new ≡ differs (option_map stem_of before) stem) → (0 < done → is_new ≡ not alike) → is_new ≡ differs (option_map stem_of (last_of (recs ++ front))) stem
starts zero recs front before last key stem alike is_new b none some long st al first later =
    first refl ∙ ap (λ (o : Option (List ℕ)). differs (option_map stem_of o) stem) (b ∙ ap last_of (sym (append-nil recs) ∙ ap (λ (f : List Record). recs ++ f) (sym (none refl))))
starts (suc n) recs front before last key stem alike is_new b none some long st al first later =
    let s = some (omega arith) in
    later (omega arith)
    ∙ (ap not al
    ∙ (alike_differs last key s.1 long
    ∙ (ap (differs (Some (stem_of last))) (sym st)
    ∙ ap (λ (o : Option (List ℕ)). differs (option_map stem_of o) stem) (sym (last_of_append recs front last s.0)))))
