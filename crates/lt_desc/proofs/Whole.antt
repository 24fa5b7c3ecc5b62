-- All of a descriptor: what is read is so spelled, and what is so spelled is read.
use Rattle.std.proofs.Common.{◌≡◌, ℕ, List, ◌++◌, length, Result, Ok, ap, subst, ◌∙◌}
use Rattle.lt_rec.specs.declared.listed.Listed.{Listed}
use Rattle.lt_schema.specs.Versions.{SchemaVersions}
use Rattle.lt_desc.specs.declared.head.Head.{Head}
use Rattle.lt_desc.specs.Shape.{StoneShape}
use Rattle.lt_desc.specs.Lawful.{IsStone, Fits}
use Rattle.lt_desc.specs.Spelling.{head_spelled, schemas_spelled, listing_spelled, head_of, spelling}
use Rattle.lt_rec.specs.Reading.{◌>>=◌}
use Rattle.lt_desc.specs.Reading.{head_at, schemas_at, listing_at, stone_at}
use Rattle.lt_rec.proofs.Reading.{IsBytes, bind_ok, ok_is}
use Rattle.lt_desc.proofs.First.{head_takes, head_again}
use Rattle.lt_desc.proofs.ChangeText.{schemas_takes, schemas_again}
use Rattle.lt_desc.proofs.ListingText.{listing_takes, listing_again}

abbrev pub stone_of : Head → SchemaVersions → List Listed → StoneShape
stone_of head schemas tablets = record { kept = head.kept; low = head.low; ttl = head.ttl; next_file = head.next_file; schemas = schemas; tablets = tablets }

pub record StoneFound (bytes : List ℕ) (s : StoneShape) : Type 0 where
  pub spelled : bytes ≡ spelling s
  pub lawful : IsStone s
  pub fits : Fits s

abbrev from_schemas : (total : ℕ) (head : Head) → SchemaVersions × List ℕ → Result StoneShape ℕ
from_schemas total head schemas = listing_at head.kept head.next_file total schemas.1 >>= λ tablets. Ok (stone_of head schemas.0 tablets)

abbrev from_head : (total : ℕ) → Head × List ℕ → Result StoneShape ℕ
from_head total head = schemas_at total head.1 >>= from_schemas total head.0

pub stone_takes : (bytes : List ℕ) (s : StoneShape) → IsBytes bytes → stone_at bytes ≡ Ok s → StoneFound bytes s
unfolding stone_at spelling
stone_takes bytes s fits e =
    let total = length bytes in
    let a = bind_ok (head_at (length bytes) bytes) (from_head (length bytes)) s e in
    let b = bind_ok (schemas_at (length bytes) a.0.1) (from_schemas (length bytes) a.0.0) s a.2 in
    let c = bind_ok (listing_at a.0.0.kept a.0.0.next_file (length bytes) b.0.1) (λ tablets. Ok (stone_of a.0.0 b.0.0 tablets)) s b.2 in
    let ta = head_takes (length bytes) bytes a.0 fits a.1 in
    let tb = schemas_takes (length bytes) a.0.1 b.0 ta.0.rest_fits b.1 in
    let tc = listing_takes a.0.0.kept a.0.0.next_file (length bytes) b.0.1 c.0 tb.takes.rest_fits c.1 in
    let parts : bytes ≡ head_spelled a.0.0 ++ (schemas_spelled b.0.0 ++ listing_spelled c.0) =
    ta.0.parts ∙ ap (λ (t : List ℕ). head_spelled a.0.0 ++ t) (tb.takes.parts ∙ ap (λ (t : List ℕ). schemas_spelled b.0.0 ++ t) tc.parts) in
    subst (StoneFound bytes) (ok_is (stone_of a.0.0 b.0.0 c.0) s c.2) (record {
      spelled = parts;
      lawful = record { kept = ta.1.kept; low = ta.1.low; ttl = ta.1.ttl; next_file = ta.1.next_file; schemas = tb.lawful; few = tc.few; tablets = tc.are.each; rising = tc.are.rising; once = tc.are.once };
      fits = record { columns = tb.columns; changes = tb.changes; tablets = tc.are.fits };
    })

pub stone_again : (s : StoneShape) → IsStone s → Fits s → stone_at (spelling s) ≡ Ok s
unfolding stone_at spelling
stone_again s is fits =
    let total : ℕ = length (head_spelled (head_of s) ++ (schemas_spelled s.schemas ++ listing_spelled s.tablets)) in
    ap (λ (q : Result (Head × List ℕ) ℕ). q >>= from_head total) (head_again total (head_of s) (schemas_spelled s.schemas ++ listing_spelled s.tablets) (record { kept = is.kept; low = is.low; ttl = is.ttl; next_file = is.next_file }))
    ∙ (ap (λ (q : Result (SchemaVersions × List ℕ) ℕ). q >>= from_schemas total (head_of s)) (schemas_again total s.schemas (listing_spelled s.tablets) is.schemas fits.columns fits.changes)
    ∙ ap (λ (q : Result (List Listed) ℕ). q >>= λ tablets. Ok (stone_of (head_of s) s.schemas tablets))
    (listing_again s.kept s.next_file total s.tablets is.kept is.next_file is.few (record { each = is.tablets; rising = is.rising; once = is.once; fits = fits.tablets })))

-- the parts that were read make a stone
pub stone_read : (bytes : List ℕ) (head : Head) (after_head : List ℕ) (schemas : SchemaVersions) (after_schemas : List ℕ) (tablets : List Listed) → head_at (length bytes) bytes ≡ Ok (head, after_head) → schemas_at (length bytes) after_head ≡ Ok (schemas, after_schemas)
    → listing_at head.kept head.next_file (length bytes) after_schemas ≡ Ok tablets → stone_at bytes ≡ Ok (stone_of head schemas tablets)
unfolding stone_at
stone_read bytes head after_head schemas after_schemas tablets a b c =
    ap (λ (q : Result (Head × List ℕ) ℕ). q >>= from_head (length bytes)) a
    ∙ (ap (λ (q : Result (SchemaVersions × List ℕ) ℕ). q >>= from_schemas (length bytes) head) b
    ∙ ap (λ (q : Result (List Listed) ℕ). q >>= λ ts. Ok (stone_of head schemas ts)) c)
