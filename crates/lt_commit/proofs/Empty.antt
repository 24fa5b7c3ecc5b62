-- Making an empty table, one moment after another.
use Rattle.std.proofs.Common.{◌≡◌, ◌⊎◌, ◌≤◌, ◌+◌, ℕ, List, [], ◌∷◌, Option, Some, None, Ok, Contains, refl, sym, ◌∙◌, subst, inl, inr, ⊎_elim, arith}
use Rattle.lt_io.specs.Directory.{State, Directory, Fits, moment, raised, lent}
use Rattle.lt_io.specs.Steps.{Steps, IsPreorder}
use Rattle.lt_io.proofs.Moments.{fits_now, Fits-settled}
use Rattle.lt_io.proofs.Chains.{Steps-none, Steps-lent, Steps-join, Steps-weaken, FromOn-now, FromOn-steps, possible_each}
use Rattle.lt_schema.specs.Shapes.{SchemaShape}
use Rattle.lt_desc.specs.Shape.{StoneShape}
use Rattle.lt_desc.specs.Reading.{stone_at}
use Rattle.lt_desc.specs.Spelling.{spelling}
use Rattle.lt_commit.specs.Begun.{IsEmpty, SpellsEmpty, OpensEmpty, Begins, NoneOrEmpty, AllEmpty}
use Rattle.lt_commit.specs.Moments.{Narrows, Replaces, replaced}
use Rattle.lt_commit.proofs.Orders.{only_one}

module _ (schema : SchemaShape) (ttl : Option ℕ) where
  abbrev Chain : Directory → Directory → Type 0
  Chain old new = Steps (Begins schema ttl) old new

  begins_itself : (state : State) → Begins schema ttl state state
  begins_itself state = record { files = refl; ceiling = omega arith; old_or_empty = λ d was. inl was }

  beginning : IsPreorder (Begins schema ttl)
  beginning = record {
    itself = begins_itself;
    further = λ before state after first then. record {
      files = then.files ∙ first.files;
      ceiling = omega (arith, first.ceiling, then.ceiling);
      old_or_empty = λ d is. ⊎_elim (λ was. first.old_or_empty d was) (λ new. inr new) (then.old_or_empty d is);
    };
  }

  pub begun_none : (directory : Directory) → Chain directory directory
  begun_none directory = Steps-none (Begins schema ttl) beginning directory

  pub begun_narrows : (old new : Directory) → Steps Narrows old new → Chain old new
  begun_narrows old new steps =
      Steps-weaken Narrows (Begins schema ttl)
      (λ before after narrows. record { files = narrows.files; ceiling = omega (arith, narrows.ceiling); old_or_empty = λ d is. inl (narrows.possible d is) })
      old new steps

  begun_lent : (old new : Directory) (number : ℕ) → old.now.ceiling ≤ number → new ≡ lent old number → Chain old new
  begun_lent old new number unlent e =
      subst (Chain old) (sym e) (Steps-lent (Begins schema ttl) old number record { files = refl; ceiling = omega arith; old_or_empty = λ d was. inl was })

  spells : (stone : StoneShape) (descriptor : Option (List ℕ)) → IsEmpty schema ttl stone → stone_at (spelling stone) ≡ Ok stone → descriptor ≡ Some (spelling stone) → SpellsEmpty schema ttl descriptor
  spells stone descriptor empty read is = record { stone = stone; empty = empty; spelled = is; read = read }

  begun_replaces : (old new : Directory) (number : ℕ) (stone : StoneShape) → IsEmpty schema ttl stone → stone_at (spelling stone) ≡ Ok stone → Steps (Replaces number (spelling stone)) old new → Chain old new
  begun_replaces old new number stone empty read steps =
      Steps-weaken (Replaces number (spelling stone)) (Begins schema ttl)
      (λ before after replaces. record {
        files = replaces.files;
        ceiling = replaces.no_lower;
        old_or_empty = λ d is. ⊎_elim (λ was. inl was) (λ new. inr (spells stone d empty read new)) (replaces.old_or_new d is);
      })
      old new steps

  pub begun_published : (old new : Directory) (number : ℕ) (stone : StoneShape) → old.now.ceiling ≤ number → IsEmpty schema ttl stone
      → (new ≡ lent old number) ⊎ (stone_at (spelling stone) ≡ Ok stone) → Steps (Replaces number (spelling stone)) old new → Chain old new
  begun_published old new number stone unlent empty readable steps =
      ⊎_elim (λ only. begun_lent old new number unlent only) (λ read. begun_replaces old new number stone empty read steps) readable

  pub begun_join : (old middle new : Directory) → Chain old middle → Chain middle new → Chain old new
  begun_join old middle new first then = Steps-join (Begins schema ttl) beginning old middle new first then

  -- what the chain says of images
  pub none_or_empty : (old new : Directory) → old.now.may ≡ None ∷ [] → Chain old new → NoneOrEmpty schema ttl old new
  none_or_empty old new none steps =
      possible_each (Begins schema ttl old.now) (λ image. (image.descriptor ≡ None) ⊎ OpensEmpty schema ttl image)
      (λ state image begins fits. ⊎_elim (λ was. inl (sym (only_one None image.descriptor (subst (λ may. Contains may image.descriptor) none was)))) (λ new. inr new) (begins.old_or_empty image.descriptor fits.descriptor))
      (moment old) new
      (FromOn-steps (Begins schema ttl) (Begins schema ttl old.now) (λ before after more so_far. beginning.further old.now before after so_far more) (moment old) old new (omega arith) steps
      (FromOn-now (Begins schema ttl old.now) old (begins_itself old.now)))

  pub all_empty : (old : State) (new : Directory) (number : ℕ) (stone : StoneShape) → IsEmpty schema ttl stone → stone_at (spelling stone) ≡ Ok stone → new.now ≡ replaced old number (spelling stone) → AllEmpty schema ttl new
  all_empty old new number stone empty read is image possible =
      spells stone image.descriptor empty read (Fits-settled image (raised old (number + 1)) (Some (spelling stone)) (subst (Fits image) is (fits_now new image possible)))
