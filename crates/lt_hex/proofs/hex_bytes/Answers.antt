use Rattle.std.proofs.Common.{◌≡◌, sym, ◌∙◌, ap, Some}
use Rattle.lt_hex.specs.Digits.{hex_of}
use Rattle.lt_hex.proofs.Decoding.{found, all_same, refused}
use Rattle.lt_hex.proofs.hex_bytes.Goals as goal

pub returns-in-Ok : goal.returns-in-Ok
returns-in-Ok c = record { exact = ap Some c.from_vec.ensures ∙ sym (ap found c.in-Ok.ensures.ok) ∙ all_same c.args.digits.now }

pub returns-in-Err-2 : goal.returns-in-Err-2
returns-in-Err-2 c = record { exact = refused c.args.digits.now c.in-Err.error c.in-Err.ensures.err (c.is_memory.ensures c.if-is_memory.false) }
