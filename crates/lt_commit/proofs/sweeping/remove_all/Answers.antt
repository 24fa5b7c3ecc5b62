use Rattle.std.proofs.Common.{arith, refl, length, ◌<◌, ◌≤◌, Contains, subst, sym}
use Rattle.std.proofs.lemmas.List.{take_all}
use Rattle.std.proofs.lemmas.List.Elements.{Contains-get_or}
use Rattle.lt_commit.proofs.Removal.{removed_none, removed_one, sees_none, sees_one, fits_one, gone_one, lent_on}
use Rattle.lt_commit.proofs.sweeping.remove_all.Goals as goal

pub loop-file-init : goal.loop-file-init
loop-file-init g c = record {
  any_moment = λ h. removed_none _ _;
  gone = λ h file is. absurd (omega (arith, is.1));
  kept = λ h. sees_none _ _;
  possible = λ h fits. fits;
  lent = record { ceiling = refl; lends = refl };
  later = omega arith;
}

pub returns-in_err-remove-clause-any_moment : goal.returns-in_err-remove-clause-any_moment
returns-in_err-remove-clause-any_moment g c = λ h.
    removed_one _ _ _ _ _ _ (Contains-get_or c.args.files.now c.loop-file.file-index 0 (omega arith)) (c.loop-file.invariant.any_moment h) (c.remove.ensures.removed h) c.remove.ensures.unchanged

pub loop-file-preserved : goal.loop-file-preserved
loop-file-preserved g c =
    let within : c.loop-file.file-index < length c.args.files.now = omega arith in
    record {
      any_moment = λ h. removed_one _ _ _ _ _ _ (Contains-get_or c.args.files.now c.loop-file.file-index 0 within) (c.loop-file.invariant.any_moment h) (c.in_ok-remove.ensures.removed h) c.in_ok-remove.ensures.unchanged;
      gone = λ h. gone_one _ _ c.args.files.now c.loop-file.file-index within (c.in_ok-remove.ensures.removed h).others (c.in_ok-remove.ensures.removed h).gone (c.loop-file.invariant.gone h);
      kept = λ h. sees_one _ _ _ _ _ (Contains-get_or c.args.files.now c.loop-file.file-index 0 within) (c.loop-file.invariant.kept h) (c.in_ok-remove.ensures.removed h).others;
      possible = λ h. fits_one (g.V.Device.directory c.args.dir.now) (g.V.Device.directory c.loop-file.dir) (g.V.Device.directory c.remove.new.dir) _ _ (c.loop-file.invariant.possible h) (c.in_ok-remove.ensures.removed h) c.in_ok-remove.ensures.unchanged;
      lent = lent_on _ _ _ c.loop-file.invariant.lent c.in_ok-remove.ensures.lent;
      later = omega (arith, c.loop-file.invariant.later, c.in_ok-remove.ensures.cause.later);
    }

pub returns-clause-gone : goal.returns-clause-gone
returns-clause-gone g c = λ h file is.
    let past : length c.args.files.now ≤ c.loop-file.file-index = omega arith in
    c.loop-file.invariant.gone h file (subst (λ l. Contains l file) (sym (take_all c.loop-file.file-index c.args.files.now past)) is)
