-- Steps of reading.
use Rattle.std.proofs.Common.{◌≡◌, ℕ, suc, ◌+◌, ◌-◌, ◌<◌, ◌≤◌, Bool, true, false, cond, eqb, List, [], ◌∷◌, ◌++◌, length, get_or, drop, refl, sym, ap, ◌∙◌, append_assoc, add-one}
use Rattle.std.specs.Prelude.{Option, Some, None, option_map, Result, Ok, Err}
use Rattle.std.specs.Str.{IsUtf8, is_utf8}
use Rattle.std.proofs.Math.Seq.{drop-cons}
use Rattle.std.proofs.Math.ListN.{drop_of_length-le}
use Rattle.std.proofs.lemmas.Str.{IsUtf8-from_is_utf8}
use Rattle.lt_schema.specs.declared.kind.Kind.{Kind}
use Rattle.lt_schema.specs.declared.value.Value.{Value}
use Rattle.lt_schema.specs.Shapes.{ColumnShape}
use Rattle.lt_codec.specs.declared.taking.Step.{Step}
use Rattle.lt_codec.specs.declared.taking.Step.TheVariants.{Put, Wait, End, Fault}
use Rattle.lt_rec.specs.Reading.{◌>>=◌, ended}
use Rattle.lt_codec.specs.Reading.{behind, step, unescaped, values_at, all_at, behind_values}

-- ---- escaped texts

abbrev stepped : Bool → Bool → Bool → ℕ → Step
stepped false n m b = cond n Wait (Put b)
stepped true n m b = cond n End (cond m (Put 0) Fault)

abbrev Text : Type 0
Text = Option (List ℕ × List ℕ)

abbrev read_step : Bool → Bool → Bool → ℕ → Text → Text → List ℕ → Text
read_step false n m b waits goes bs = cond n waits (option_map (behind b) goes)
read_step true n m b waits goes bs = cond n (Some ([], bs)) (cond m (option_map (behind 0) goes) None)

end_by : (nil n m : Bool) (b : ℕ) (waits goes : Text) (bs : List ℕ) → stepped nil n m b ≡ End → read_step nil n m b waits goes bs ≡ Some ([], bs)
end_by false true m b waits goes bs is = absurd (cc)
end_by false false m b waits goes bs is = absurd (cc)
end_by true true m b waits goes bs is = refl
end_by true false true b waits goes bs is = absurd (cc)
end_by true false false b waits goes bs is = absurd (cc)

fault_by : (nil n m : Bool) (b : ℕ) (waits goes : Text) (bs : List ℕ) → stepped nil n m b ≡ Fault → read_step nil n m b waits goes bs ≡ None
fault_by false true m b waits goes bs is = absurd (cc)
fault_by false false m b waits goes bs is = absurd (cc)
fault_by true true m b waits goes bs is = absurd (cc)
fault_by true false true b waits goes bs is = absurd (cc)
fault_by true false false b waits goes bs is = refl

put_by : (nil n m : Bool) (b x : ℕ) (waits goes : Text) (bs : List ℕ) → stepped nil n m b ≡ Put x → read_step nil n m b waits goes bs ≡ option_map (behind x) goes
put_by false true m b x waits goes bs is = absurd (cc)
put_by false false m b x waits goes bs is = let same : b ≡ x = cc in ap (λ (y : ℕ). option_map (behind y) goes) same
put_by true true m b x waits goes bs is = absurd (cc)
put_by true false true b x waits goes bs is = let same : 0 ≡ x = cc in ap (λ (y : ℕ). option_map (behind y) goes) same
put_by true false false b x waits goes bs is = absurd (cc)

wait_by : (nil n m : Bool) (b : ℕ) (waits goes : Text) (bs : List ℕ) → stepped nil n m b ≡ Wait → read_step nil n m b waits goes bs ≡ waits
wait_by false true m b waits goes bs is = refl
wait_by false false m b waits goes bs is = absurd (cc)
wait_by true true m b waits goes bs is = absurd (cc)
wait_by true false true b waits goes bs is = absurd (cc)
wait_by true false false b waits goes bs is = absurd (cc)

step_is : (nil : Bool) (b : ℕ) → step nil b ≡ stepped nil (eqb b 0) (eqb b 255) b
step_is false b = refl
step_is true b = refl

unescaped_is : (nil : Bool) (b : ℕ) (bs : List ℕ) → unescaped nil (b ∷ bs) ≡ read_step nil (eqb b 0) (eqb b 255) b (unescaped true bs) (unescaped false bs) bs
unfolding unescaped
unescaped_is false b bs = refl
unescaped_is true b bs = refl

pub on_end : (nil : Bool) (b : ℕ) (bs : List ℕ) → End ≡ step nil b → unescaped nil (b ∷ bs) ≡ Some ([], bs)
on_end nil b bs is = unescaped_is nil b bs ∙ end_by nil (eqb b 0) (eqb b 255) b (unescaped true bs) (unescaped false bs) bs (sym (step_is nil b) ∙ sym is)

pub on_fault : (nil : Bool) (b : ℕ) (bs : List ℕ) → Fault ≡ step nil b → unescaped nil (b ∷ bs) ≡ None
on_fault nil b bs is = unescaped_is nil b bs ∙ fault_by nil (eqb b 0) (eqb b 255) b (unescaped true bs) (unescaped false bs) bs (sym (step_is nil b) ∙ sym is)

on_put : (nil : Bool) (b x : ℕ) (bs : List ℕ) → Put x ≡ step nil b → unescaped nil (b ∷ bs) ≡ option_map (behind x) (unescaped false bs)
on_put nil b x bs is = unescaped_is nil b bs ∙ put_by nil (eqb b 0) (eqb b 255) b x (unescaped true bs) (unescaped false bs) bs (sym (step_is nil b) ∙ sym is)

pub on_wait : (nil : Bool) (b : ℕ) (bs : List ℕ) → Wait ≡ step nil b → unescaped nil (b ∷ bs) ≡ unescaped true bs
on_wait nil b bs is = unescaped_is nil b bs ∙ wait_by nil (eqb b 0) (eqb b 255) b (unescaped true bs) (unescaped false bs) bs (sym (step_is nil b) ∙ sym is)

-- bytes that were read before
abbrev pub prefixed : List ℕ → Text → Text
prefixed out read = option_map (λ x. (out ++ x.0, x.1)) read

prefixed_more : (out : List ℕ) (x : ℕ) (read : Text) → prefixed out (option_map (behind x) read) ≡ prefixed (out ++ x ∷ []) read
prefixed_more out x None = refl
prefixed_more out x (Some r) = ap (λ (l : List ℕ). Some (l, r.1)) (sym (append_assoc out (x ∷ []) r.0))

pub put_more : (out : List ℕ) (nil : Bool) (b x : ℕ) (bs : List ℕ) → Put x ≡ step nil b → prefixed out (unescaped nil (b ∷ bs)) ≡ prefixed (out ++ x ∷ []) (unescaped false bs)
put_more out nil b x bs is = ap (prefixed out) (on_put nil b x bs is) ∙ prefixed_more out x (unescaped false bs)

pub none_left : (nil : Bool) (left : List ℕ) (i : ℕ) → length left ≤ i → unescaped nil (drop i left) ≡ None
unfolding unescaped
none_left nil left i past = rw (drop_of_length-le left past) (empty nil)
  where
    empty : (nil : Bool) → unescaped nil [] ≡ None
    empty false = refl
    empty true = refl

pub cut_byte : (left : List ℕ) (i : ℕ) → i < length left → drop i left ≡ get_or left i 0 ∷ drop (i + 1) left
cut_byte left i lt = rw (add-one) (drop-cons left i 0 lt)

-- ---- texts

pub not_utf8 : (bytes : List ℕ) → (IsUtf8 bytes → ⊥) → is_utf8 bytes ≡ false
not_utf8 bytes no_text = by (is_utf8 bytes) (λ is. no_text (IsUtf8-from_is_utf8 bytes is))
  where
    by : (b : Bool) → (b ≡ true → ⊥) → b ≡ false
    by true no_true = absurd (no_true refl)
    by false no_true = refl

-- ---- columns

abbrev pub Reads : Type 0
Reads = Kind → List ℕ → Option (Value × List ℕ)

last_by : (b : Bool) (before xs : List Value) (value : Value) (at : ℕ) → behind_values before (cond b (Ok (value ∷ xs)) (Err at)) ≡ behind_values (before ++ value ∷ []) (cond b (Ok xs) (Err at))
last_by true before xs value at = ap (λ (l : List Value). Ok l) (sym (append_assoc before (value ∷ []) xs))
last_by false before xs value at = refl

more_by : (end : ℕ) (before : List Value) (value : Value) (read : Result (List Value × List ℕ) ℕ)
    → behind_values before ((read >>= λ others. Ok (value ∷ others.0, others.1)) >>= ended end) ≡ behind_values (before ++ value ∷ []) (read >>= ended end)
more_by end before value (Ok x) = last_by (eqb (length x.1) 0) before x.0 value (end - length x.1)
more_by end before value (Err at) = refl

pub column_more : (reads : Reads) (end : ℕ) (column : ColumnShape) (columns : List ColumnShape) (bytes rest : List ℕ) (before : List Value) (value : Value) → reads column.kind bytes ≡ Some (value, rest)
    → behind_values before (all_at reads end (column ∷ columns) bytes) ≡ behind_values (before ++ value ∷ []) (all_at reads end columns rest)
unfolding values_at
column_more reads end column columns bytes rest before value is = rw is (more_by end before value (values_at reads end columns rest))

pub column_none : (reads : Reads) (end : ℕ) (column : ColumnShape) (columns : List ColumnShape) (bytes : List ℕ) (before : List Value) → reads column.kind bytes ≡ None
    → behind_values before (all_at reads end (column ∷ columns) bytes) ≡ Err (end - length bytes)
unfolding values_at
column_none reads end column columns bytes before is = rw is refl

pub columns_end : (reads : Reads) (end : ℕ) (bytes : List ℕ) (before : List Value) (b : Bool) → eqb (length bytes) 0 ≡ b
    → behind_values before (all_at reads end [] bytes) ≡ behind_values before (cond b (Ok []) (Err (end - length bytes)))
unfolding values_at
columns_end reads end bytes before b is = rw is refl

pub columns_past : (columns : List ColumnShape) (i : ℕ) → length columns ≤ i → drop i columns ≡ []
columns_past columns i past = drop_of_length-le columns past

pub cut_column : (columns : List ColumnShape) (i : ℕ) (column : ColumnShape) → i < length columns → column ≡ get_or columns i column → drop i columns ≡ column ∷ drop (i + 1) columns
cut_column columns i column lt is = rw (add-one) (drop-cons columns i column lt ∙ ap (λ (c : ColumnShape). c ∷ drop (suc i) columns) (sym is))
