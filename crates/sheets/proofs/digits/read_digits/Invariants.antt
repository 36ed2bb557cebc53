-- The loop has passed i digits, their number is made, and the rest decides how many more there are.
use Rattle.std.proofs.Common.{◌≡◌, ◌+◌, ◌-◌, ◌^◌, ◌<◌, ◌≤◌, take, drop}
use Rattle.sheets.specs.Digits.{run, number_of}
use Rattle.sheets.proofs.digits.read_digits.Given as goal

abbrev pub invariant-loop-count : goal.invariant-loop-count
invariant-loop-count l = (l.count ≤ l.most) × (run l.radix l.most l.text ≡ l.count + run l.radix (l.most - l.count) (drop l.count l.text)) × (l.number ≡ number_of l.radix (take l.count l.text)) × (l.number < l.radix ^ l.count)
