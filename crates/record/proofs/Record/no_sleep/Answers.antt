use Rattle.std.proofs.Common.{rules, ℕ, ◌<◌, ◌≤◌, ◌≡◌, ◌+◌, ◌*◌, length, get_or}
use native.Mathlib.Omega.{arith}
use Rattle.rules.specs.Station.{device_at}
use Rattle.rules.proofs.Index.{below_in}
use Rattle.record.specs.Record.{device_of}
use Rattle.record.proofs.AllGood.{chunk_at, no_sleep_test}
use Rattle.record.proofs.Record.no_sleep.Goals as goal

pub returns : goal.returns
unfolding device_at
returns c =
    let r = c.args.self.now in
    let v = device_of r in
    let b = c.unwrap-eight.result in
    let first = r.at + 4 + 5 * r.width in
    let inside : first + 8 ≤ length r.bytes.now = search rules in
    let b0 : get_or b 0 0 < 256 = search rules in
    let b1 : get_or b 1 0 < 256 = search rules in
    let b2 : get_or b 2 0 < 256 = search rules in
    let b3 : get_or b 3 0 < 256 = search rules in
    let b4 : get_or b 4 0 < 256 = search rules in
    let b5 : get_or b 5 0 < 256 = search rules in
    let b6 : get_or b 6 0 < 256 = search rules in
    let byte : (i : ℕ) → i < 8 → get_or b i 0 ≡ get_or r.bytes.now (first + i) 0 = λ i l.
    chunk_at 8 r.bytes.now b first i l inside (rw c.unwrap-eight.ensures at c.try_into.ensures.1)
    in
    let s1 : get_or b 0 0 ≡ v.sxd 1 = let q = byte 0 (omega arith) in search (rules, below_in, q) in
    let s2 : get_or b 1 0 ≡ v.sxd 2 = let q = byte 1 (omega arith) in search (rules, below_in, q) in
    let s3 : get_or b 2 0 ≡ v.sxd 3 = let q = byte 2 (omega arith) in search (rules, below_in, q) in
    let s4 : get_or b 3 0 ≡ v.sxd 4 = let q = byte 3 (omega arith) in search (rules, below_in, q) in
    let w0 : get_or b 4 0 ≡ v.sxw 0 = let q = byte 4 (omega arith) in search (rules, below_in, q) in
    let w1 : get_or b 5 0 ≡ v.sxw 1 = let q = byte 5 (omega arith) in search (rules, below_in, q) in
    let w2 : get_or b 6 0 ≡ v.sxw 2 = let q = byte 6 (omega arith) in search (rules, below_in, q) in
    let w3 : get_or b 7 0 ≡ v.sxw 3 = let q = byte 7 (omega arith) in search (rules, below_in, q) in
    no_sleep_test v _ _ _ _ _ _ _ _ _ _ _ _ b0 b1 b2 b3 b4 b5 b6 c.sxw.type_inv
    s1 s2 s3 s4 w0 w1 w2 w3 c.sxw.ensures c.deepest.ensures c.from_le_bytes.ensures c.from_le_bytes-last.ensures
