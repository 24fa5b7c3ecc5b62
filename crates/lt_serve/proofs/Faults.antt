-- How many replies tell a fault.
use Rattle.std.proofs.Common.{◌≡◌, ◌⊎◌, ◌≤◌, ◌+◌, ◌-◌, ◌^◌, ℕ, List, [], ◌∷◌, ◌++◌, refl, ap, inl, inr, ⊎_elim, arith}
use Rattle.std.specs.Prelude.{min}
use Rattle.std.proofs.lemmas.List.Sums.{sum_by-append}
use Rattle.lt_io.specs.Device.{Counts}
use Rattle.lt_command.specs.declared.reply.Reply.{Reply}
use Rattle.lt_command.specs.declared.reply.Reply.TheVariants.{BadLine, Inserted, BadRow, TooOld, Present, Spent, Rows, Latest, BadLimit, BadBound, Flushed, NoTablet, Upkept, Version, Refused, Tablets, Damaged, Fault, NoMemory}
use Rattle.lt_serve.specs.Growing.{fault_weight, faults_in, AtMostRose}

-- a reply that is none weighs nothing
weighs : (reply : Reply) → (fault_weight reply ≡ 0) ⊎ (reply ≡ Fault)
weighs (BadLine at) = inl refl
weighs (Inserted seq) = inl refl
weighs (BadRow fault) = inl refl
weighs (TooOld bound) = inl refl
weighs (Present seq) = inl refl
weighs Spent = inl refl
weighs (Rows rows more place bound) = inl refl
weighs (Latest row place bound) = inl refl
weighs (BadLimit given) = inl refl
weighs (BadBound fault) = inl refl
weighs (Flushed kept tablets) = inl refl
weighs (NoTablet named) = inl refl
weighs (Upkept low run end swept) = inl refl
weighs (Version version) = inl refl
weighs (Refused why) = inl refl
weighs (Tablets listing) = inl refl
weighs (Damaged file at) = inl refl
weighs Fault = inr refl
weighs NoMemory = inl refl

no_heavier : (began n weight before now : ℕ) → weight ≡ 0 → min (began + n) (2 ^ 64 - 1) ≤ before → before ≤ now → min (began + (n + weight)) (2 ^ 64 - 1) ≤ now
no_heavier began n weight before now none so_far later = omega arith

one_more : (began n weight before now : ℕ) → weight ≡ 1 → min (began + n) (2 ^ 64 - 1) ≤ before → min (before + 1) (2 ^ 64 - 1) ≤ now → min (began + (n + weight)) (2 ^ 64 - 1) ≤ now
one_more began n weight before now one so_far rose = omega arith

pub faults_more : (began before now : ℕ) (replies : List Reply) (reply : Reply) → AtMostRose began (faults_in replies) before → Counts before now (reply ≡ Fault) → AtMostRose began (faults_in (replies ++ reply ∷ [])) now
faults_more began before now replies reply so_far counts =
    let all = sum_by-append fault_weight replies (reply ∷ []) in
    let more : min (began + (faults_in replies + fault_weight reply)) (2 ^ 64 - 1) ≤ now =
    ⊎_elim (λ none. no_heavier began (faults_in replies) (fault_weight reply) before now none so_far counts.later)
    (λ is. one_more began (faults_in replies) (fault_weight reply) before now (ap fault_weight is) so_far (counts.failed is)) (weighs reply) in
    omega (arith, all, more)

pub faults_later : (began n before now : ℕ) → AtMostRose began n before → before ≤ now → AtMostRose began n now
faults_later began n before now so_far later = omega arith

pub faults_from : (began n middle now : ℕ) → AtMostRose middle n now → began ≤ middle → AtMostRose began n now
faults_from began n middle now since later = omega arith
