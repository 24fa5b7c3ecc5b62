-- What a making of a table leaves.
use Rattle.std.proofs.Common.{◌≡◌, ◌+◌, ◌≤◌, ◌<◌, ◌^◌, ℕ, Bool, true, List, [], ◌∷◌, Option, None, Contains, refl, sym, subst, inl, inr, ⊎_elim, arith}
use Rattle.std.specs.Prelude.{Ok, Err, IsSome}
use Rattle.lt_io.specs.Device.{KeepsLent}
use Rattle.lt_io.specs.Steps.{Steps}
use Rattle.lt_io.specs.Directory.{Image, Directory, PossibleAt, moment}
use Rattle.lt_io.proofs.Moments.{fits_now, possible_within}
use Rattle.lt_schema.specs.Shapes.{SchemaShape}
use Rattle.lt_json.specs.FromJson.{SaysSchema, IsCause as IsSchemaCause}
use Rattle.lt_json.specs.declared.json.SchemaError.{SchemaError}
use Rattle.lt_commit.specs.Begun.{NoneOrEmpty, AllEmpty}
use Rattle.lt_commit.specs.Causes.{Denies}
use Rattle.lt_commit.specs.Moments.{Narrows, LendsOne, MayLendOne}
use Rattle.lt_commit.proofs.Orders.{only_one}
use Rattle.lt_commit.proofs.Pictures.{nothing_new}
use Rattle.lt_commit.specs.declared.errors.CreateError.{CreateError}
use Rattle.lt_commit.specs.declared.errors.CreateError.TheVariants as create
use Rattle.lt_serve.specs.Made.{NoneOrMade, AllMade, IsCreateCause, LeavesAll, LeavesUnmade, Makes}
use Rattle.lt_serve.specs.declared.refusals.MakeError.TheVariants as making

-- the directory is as it was, and had no descriptor
pub none_still : (directory : Directory) → directory.now.may ≡ None ∷ [] → (at : ℕ) (image : Image) → moment directory ≤ at → PossibleAt directory at image → image.descriptor ≡ None
none_still directory none at image later possible =
    let now : moment directory ≡ at = omega (arith, possible_within directory at image possible) in
    let fits = fits_now directory image (subst (λ (n : ℕ). PossibleAt directory n image) (sym now) possible) in
    sym (only_one None image.descriptor (subst (λ may. Contains may image.descriptor) none fits.descriptor))

pub none_or_made : (text : List ℕ) (schema : SchemaShape) (ttl : Option ℕ) (old new : Directory) → SaysSchema text schema → NoneOrEmpty schema ttl old new → NoneOrMade text ttl old new
none_or_made text schema ttl old new says images at image later possible =
    ⊎_elim (λ none. inl none) (λ opens. inr (record { schema = schema; says = says; opens = opens })) (images at image later possible)

pub all_made : (text : List ℕ) (schema : SchemaShape) (ttl : Option ℕ) (new : Directory) → SaysSchema text schema → AllEmpty schema ttl new → AllMade text ttl new
all_made text schema ttl new says images image possible = record { schema = schema; says = says; opens = images image possible }

-- ---- what the directory is after a making

-- the text was refused
pub makes_nothing : (honest : Bool) (text : List ℕ) (ttl : Option ℕ) (old : Directory) (why : SchemaError) → IsSchemaCause text why → Makes honest text ttl old old (Err (making.Schema why))
makes_nothing honest text ttl old why cause = record {
  ready = tt;
  cause = cause;
  none_or_made = λ h none at image later possible. inl (none_still old none at image later possible);
  all_made = λ h. tt;
  unmade = refl;
  number = λ h. tt;
  lends = omega arith;
}

-- the table was made
pub makes_table : (honest : Bool) (text : List ℕ) (ttl : Option ℕ) (old new : Directory) (schema : SchemaShape) → SaysSchema text schema → (honest ≡ true → old.seen.descriptor ≡ None) → (honest ≡ true → old.now.ceiling < 2 ^ 62)
    → (honest ≡ true → old.now.may ≡ None ∷ [] → NoneOrEmpty schema ttl old new) → (honest ≡ true → AllEmpty schema ttl new) → (honest ≡ true → LendsOne old.now.ceiling old new) → new.lends ≡ old.lends + 1
    → Makes honest text ttl old new (Ok tt)
makes_table honest text ttl old new schema says none room images all number lends = record {
  ready = record { says = (schema, says); none = none; room = room };
  cause = tt;
  none_or_made = λ h was. none_or_made text schema ttl old new says (images h was);
  all_made = λ h. all_made text schema ttl new says (all h);
  unmade = tt;
  number = number;
  lends = lends;
}

create_cause : (honest : Bool) (old : Directory) (why : CreateError) → (honest ≡ true → why ≡ create.Exists → IsSome old.seen.descriptor) → (honest ≡ true → why ≡ create.Spent → 2 ^ 62 ≤ old.now.ceiling)
    → (honest ≡ true → why ≡ create.Spent → old.seen.descriptor ≡ None) → IsCreateCause honest old why
create_cause honest old create.Exists exists spent none = λ h. exists h refl
create_cause honest old create.Spent exists spent none = λ h. record { none = none h refl; full = spent h refl }
create_cause honest old create.Fault exists spent none = tt
create_cause honest old create.NoMemory exists spent none = tt

leaves_all : (honest : Bool) (old new : Directory) → (honest ≡ true → Steps Narrows old new) → (honest ≡ true → new.seen ≡ old.seen) → KeepsLent old new → LeavesAll honest old new
leaves_all honest old new steps seen lent = record { any_moment = steps; images = λ h. nothing_new old new (steps h); seen = seen; lent = lent }

create_leaves : (honest : Bool) (old new : Directory) (why : CreateError) → (honest ≡ true → Denies why → Steps Narrows old new) → (honest ≡ true → Denies why → new.seen ≡ old.seen) → (Denies why → KeepsLent old new)
    → (honest ≡ true → MayLendOne old.now.ceiling old new) → LeavesUnmade honest old new (making.Create why)
create_leaves honest old new create.Exists steps seen lent number = leaves_all honest old new (λ h. steps h tt) (λ h. seen h tt) (lent tt)
create_leaves honest old new create.Spent steps seen lent number = leaves_all honest old new (λ h. steps h tt) (λ h. seen h tt) (lent tt)
create_leaves honest old new create.Fault steps seen lent number = number
create_leaves honest old new create.NoMemory steps seen lent number = number

-- the directory took no table
pub makes_none : (honest : Bool) (text : List ℕ) (ttl : Option ℕ) (old new : Directory) (schema : SchemaShape) (why : CreateError) → SaysSchema text schema
    → (honest ≡ true → why ≡ create.Exists → IsSome old.seen.descriptor) → (honest ≡ true → why ≡ create.Spent → 2 ^ 62 ≤ old.now.ceiling) → (honest ≡ true → why ≡ create.Spent → old.seen.descriptor ≡ None)
    → (honest ≡ true → Denies why → Steps Narrows old new) → (honest ≡ true → Denies why → new.seen ≡ old.seen) → (Denies why → KeepsLent old new)
    → (honest ≡ true → old.now.may ≡ None ∷ [] → NoneOrEmpty schema ttl old new) → (honest ≡ true → MayLendOne old.now.ceiling old new) → new.lends ≤ old.lends + 1
    → Makes honest text ttl old new (Err (making.Create why))
makes_none honest text ttl old new schema why says exists spent none steps seen lent images number lends = record {
  ready = tt;
  cause = ((schema, says), create_cause honest old why exists spent none);
  none_or_made = λ h was. none_or_made text schema ttl old new says (images h was);
  all_made = λ h. tt;
  unmade = create_leaves honest old new why steps seen lent number;
  number = λ h. tt;
  lends = lends;
}
