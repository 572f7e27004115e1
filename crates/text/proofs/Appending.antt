-- Laws of writing behind what stands already.
use Prim.Native.Nat.{ℕ}
use native.Mathlib.Omega.{arith}
use mathlib.Core.Path.{refl, sym, ◌∙◌}
use mathlib.Core.List.{List, [], ◌++◌, append_assoc, append-nil}
use lib.ListN.{take, length-append}
use Rattle.text.specs.declared.numbers.Text.{Text}
use Rattle.text.specs.Written.{Appended, Puts}

-- one after the other
pub appended : {a b c : List ℕ} {at m r : ℕ} {vs ws : List ℕ} → Appended a b at m vs → Appended b c m r ws → Appended a c at r (vs ++ ws)
appended {vs = vs} {ws = ws} h k =
    record { end = omega (arith, h.end, k.end, length-append vs ws); text = k.text ∙ rw (h.text, append_assoc) }

pub put_both : {s t u : Text} {vs ws : List ℕ} → Puts s t vs → Puts t u ws → Puts s u (vs ++ ws)
put_both h k = record {
  same_reference = k.same_reference ∙ h.same_reference;
  same_length = k.same_length ∙ h.same_length;
  written = appended h.written k.written;
}

-- nothing yet
pub put_nothing : (s : Text) → Puts s s []
put_nothing s = record { same_reference = refl; same_length = refl; written = record { end = omega arith; text = sym (append-nil (take s.at s.space.now)) } }
