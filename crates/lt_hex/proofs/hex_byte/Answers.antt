use Rattle.std.proofs.Common.{sym}
use Rattle.lt_hex.proofs.Decoding.{one_read, one_refused}
use Rattle.lt_hex.proofs.hex_byte.Goals as goal

pub returns-in-Ok : goal.returns-in-Ok
returns-in-Ok c = record { exact = one_read c.args.high c.args.low c.in-Ok.bytes (sym c.in-Ok.ensures) }

pub returns-in-Err : goal.returns-in-Err
returns-in-Err c = record { exact = one_refused c.args.high c.args.low c.in-Err.field-0 (sym c.in-Err.ensures) }
