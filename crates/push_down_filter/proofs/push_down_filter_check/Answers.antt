-- `push_down_filter_check` meets its contract: the record fits 32 bits, since it is at most `max_records`.
use native.Mathlib.Omega.{arith}
use Rattle.check_image.proofs.Accepting.{is_refused, small_record}
use Rattle.push_down_filter.proofs.push_down_filter_check.Goals as goal

pub overflow_cast-result : goal.overflow_cast-result
overflow_cast-result c =
    let h = small_record _ _ (is_refused _ c.check.ensures c.in-Err.is) in
    omega (arith, h, c.record.ensures)
