-- What a loop of puts has put so far.
use Rattle.std.proofs.Common.{◌≡◌, ◌∙◌, sym, ap, refl, subst, arith, ℕ, List, [], ◌++◌, ◌+◌, ◌^◌, length, take, ◌≤◌, ◌<◌, Option, Some}
use Rattle.std.proofs.Common.{None, Result, Ok, Err}
use Rattle.std.specs.Io.KnownBytes.{Appends}
use Rattle.std.proofs.Math.Seq.{take-append-add}
use Rattle.std.proofs.lemmas.List.{append_assoc, append-nil, length-append}
use Rattle.std.proofs.lemmas.Grind.{common_steps}
use Rattle.tap_base.specs.Counts.{Rose}
use Rattle.tap_edges.specs.declared.edges.PutFailed.{PutFailed}
use Rattle.tap_edges.specs.declared.edges.Sink.{Ghosts}
use Rattle.tap_edges.specs.Puts.{TookSome, counted, PutBehind}

pub Appends-more : (a b c : Option (List ℕ)) (xs ys : List ℕ) → Appends a b xs → Appends b c ys → Appends a c (xs ++ ys)
Appends-more None b c xs ys one two = tt
Appends-more (Some us) (Some vs) (Some ws) xs ys one two = two ∙ rw one (append_assoc us xs ys)
Appends-more (Some us) None c xs ys one two = absurd one
Appends-more (Some us) (Some vs) None xs ys one two = absurd two

pub Appends-none : (a : Option (List ℕ)) → Appends a a []
Appends-none None = tt
Appends-none (Some xs) = sym (append-nil xs)

pub counted-start : (start : ℕ) → start < 2 ^ 64 → start ≡ counted (start + 0)
counted-start start small = grind arith

counted-more : (a b : ℕ) → counted (counted a + b) ≡ counted (a + b)
counted-more a b = grind arith

-- of all these bytes a front was put, which the count counts
pub record Puts (all rest : List ℕ) (start done : ℕ) (old now : Option (List ℕ)) : Type 0 where
  pub front : List ℕ
  pub split : all ≡ front ++ rest
  pub count : done ≡ counted (start + length front)
  pub written : Appends old now front

pub Puts-start : (all : List ℕ) (start : ℕ) (out : Option (List ℕ)) → start < 2 ^ 64 → Puts all all start start out out
Puts-start all start out small = record { front = []; split = refl; count = counted-start start small; written = Appends-none out }

longer : (start done done' : ℕ) (front bytes : List ℕ)
    → done ≡ counted (start + length front) → done' ≡ counted (done + length bytes) → done' ≡ counted (start + length (front ++ bytes))
longer start done done' front bytes a b =
    b ∙ ap (λ n. counted (n + length bytes)) a ∙ counted-more (start + length front) (length bytes)
    ∙ ap counted (sum (length front) (length bytes) ∙ ap (λ n. start + n) (sym (length-append front bytes))) where
      sum : (m n : ℕ) → start + m + n ≡ start + (m + n)
      sum m n = omega arith

pub Puts-more : (all rest rest' bytes : List ℕ) (start done done' : ℕ) (old now new : Option (List ℕ))
    → Puts all rest start done old now → rest ≡ bytes ++ rest' → done' ≡ counted (done + length bytes) → Appends now new bytes
    → Puts all rest' start done' old new
Puts-more all rest rest' bytes start done done' old now new before next count one = record {
  front = before.front ++ bytes;
  split = before.split ∙ ap (λ xs. before.front ++ xs) next ∙ sym (append_assoc before.front bytes rest');
  count = longer start done done' before.front bytes before.count count;
  written = Appends-more old now new before.front bytes before.written one;
}

within : (bytes rest : List ℕ) (n : ℕ) → n ≤ length bytes → take n (bytes ++ rest) ≡ take n bytes
within bytes rest n le = grind (arith, common_steps)

-- the next put was cut off
pub Puts-cut : (all rest rest' bytes : List ℕ) (start done : ℕ) (old now new : Option (List ℕ)) (failed : PutFailed)
    → Puts all rest start done old now → rest ≡ bytes ++ rest' → TookSome done now new bytes failed → TookSome start old new all failed
Puts-cut all rest rest' bytes start done old now new failed before next cut = record {
  n = length before.front + cut.n;
  within = fits before.front (before.split ∙ ap (λ xs. before.front ++ xs) next) cut.within;
  count = cut.count ∙ ap (λ n. counted (n + cut.n)) before.count ∙ counted-more (start + length before.front) cut.n
      ∙ ap counted (sum (length before.front) cut.n);
  written =
      subst (λ xs. Appends old new xs) (sym (front_is before.front cut.n cut.within (before.split ∙ ap (λ xs. before.front ++ xs) next)))
      (Appends-more old now new before.front (take cut.n bytes) before.written cut.written);
} where
  sum : (m n : ℕ) → start + m + n ≡ start + (m + n)
  sum m n = omega arith

  fits : (front : List ℕ) → all ≡ front ++ (bytes ++ rest') → cut.n ≤ length bytes → length front + cut.n ≤ length all
  fits front is le =
      let l1 = length-append front (bytes ++ rest') in
      let l2 = length-append bytes rest' in
      let l3 = ap length is in
      omega arith

  front_is : (front : List ℕ) (n : ℕ) → n ≤ length bytes → all ≡ front ++ (bytes ++ rest')
      → take (length front + n) all ≡ front ++ take n bytes
  front_is front n le is = ap (λ xs. take (length front + n) xs) is ∙ take-append-add front (bytes ++ rest') n
      ∙ ap (λ xs. front ++ xs) (within bytes rest' n le)

-- a put of more bytes was cut off among the first of them
TookSome-first : (start : ℕ) (old new : Option (List ℕ)) (bytes more : List ℕ) (failed : PutFailed)
    → TookSome start old new bytes failed → TookSome start old new (bytes ++ more) failed
TookSome-first start old new bytes more failed cut = record {
  n = cut.n;
  within = fits cut.n cut.within;
  count = cut.count;
  written = subst (λ xs. Appends old new xs) (sym (within bytes more cut.n cut.within)) cut.written;
} where
  fits : (n : ℕ) → n ≤ length bytes → n ≤ length (bytes ++ more)
  fits n le = let l = length-append bytes more in omega arith

-- or behind them
TookSome-then : (start done : ℕ) (old mid new : Option (List ℕ)) (bytes more : List ℕ) (failed : PutFailed)
    → done ≡ counted (start + length bytes) → Appends old mid bytes → TookSome done mid new more failed
    → TookSome start old new (bytes ++ more) failed
TookSome-then start done old mid new bytes more failed count one cut = Puts-cut (bytes ++ more) more [] more start done old mid new failed
    (record { front = bytes; split = refl; count = count; written = one }) (sym (append-nil more)) cut

pub first-cut-of : (start : ℕ) (old new : Option (List ℕ)) (whole bytes more : List ℕ) (failed : PutFailed)
    → whole ≡ bytes ++ more → TookSome start old new bytes failed → TookSome start old new whole failed
first-cut-of start old new whole bytes more failed is cut =
    subst (λ xs. TookSome start old new xs failed) (sym is) (TookSome-first start old new bytes more failed cut)

at-most : (a b c : ℕ) → a ≤ b → b ≤ c → a ≤ c
at-most a b c one two = omega arith

no-less : (a b : ℕ) → b ≡ a → a ≤ b
no-less a b same = omega arith

-- no byte was put, and there is none
pub Put-none : {K : Type 0} (g : Ghosts K) (start : ℕ) (bytes : List ℕ) (sink : K)
    → start < 2 ^ 64 → bytes ≡ [] → PutBehind g start bytes sink sink (Ok start)
Put-none g start bytes sink small none = subst (λ xs. PutBehind g start xs sink sink (Ok start)) (sym none) (record {
  count = counted-start start small;
  ok = Appends-none (g.out sink);
  err = tt;
  cause = record { later = no-less (g.faults sink) (g.faults sink) refl; failed = tt; fine = refl };
})

-- the same put, of bytes that are equal to these
pub Put-as : {K : Type 0} (g : Ghosts K) (start : ℕ) (bytes whole : List ℕ) (old new : K) (r : Result ℕ PutFailed)
    → bytes ≡ whole → PutBehind g start bytes old new r → PutBehind g start whole old new r
Put-as g start bytes whole old new r is put = subst (λ xs. PutBehind g start xs old new r) is put

-- two puts, one after another
pub Put-then : {K : Type 0} (g : Ghosts K) (start done : ℕ) (whole bytes more : List ℕ) (old mid new : K) (r : Result ℕ PutFailed)
    → whole ≡ bytes ++ more → PutBehind g start bytes old mid (Ok done) → PutBehind g done more mid new r
    → PutBehind g start whole old new r
Put-then g start done whole bytes more old mid new (Ok end) is one two = record {
  count = longer start done end bytes more one.count two.count ∙ ap (λ xs. counted (start + length xs)) (sym is);
  ok =
      subst (λ xs. Appends (g.out old) (g.out new) xs) (sym is) (Appends-more (g.out old) (g.out mid) (g.out new) bytes more one.ok two.ok);
  err = tt;
  cause = record {
    later = at-most (g.faults old) (g.faults mid) (g.faults new) one.cause.later two.cause.later;
    failed = tt;
    fine = two.cause.fine ∙ one.cause.fine;
  };
}
Put-then g start done whole bytes more old mid new (Err failed) is one two = record {
  count = tt;
  ok = tt;
  err = subst (λ xs. TookSome start (g.out old) (g.out new) xs failed) (sym is)
      (TookSome-then start done (g.out old) (g.out mid) (g.out new) bytes more failed one.count one.ok two.err);
  cause = record {
    later = at-most (g.faults old) (g.faults mid) (g.faults new) one.cause.later two.cause.later;
    failed = subst (λ n. Rose n (g.faults new)) one.cause.fine two.cause.failed;
    fine = tt;
  };
}

-- the first of two puts failed
pub Put-cut : {K : Type 0} (g : Ghosts K) (start : ℕ) (whole bytes more : List ℕ) (old new : K) (failed : PutFailed)
    → whole ≡ bytes ++ more → PutBehind g start bytes old new (Err failed) → PutBehind g start whole old new (Err failed)
Put-cut g start whole bytes more old new failed is cut = record {
  count = tt;
  ok = tt;
  err = first-cut-of start (g.out old) (g.out new) whole bytes more failed is cut.err;
  cause = cut.cause;
}

-- a loop of puts has put all but the last bytes, and then puts these
pub Puts-last : {K : Type 0} (g : Ghosts K) (all rest : List ℕ) (start done : ℕ) (old now new : K) (r : Result ℕ PutFailed)
    → Puts all rest start done (g.out old) (g.out now) → g.faults now ≡ g.faults old → PutBehind g done rest now new r
    → PutBehind g start all old new r
Puts-last g all rest start done old now new r before same last =
    Put-then g start done all before.front rest old now new r before.split (record {
      count = before.count;
      ok = before.written;
      err = tt;
      cause = record { later = no-less (g.faults old) (g.faults now) same; failed = tt; fine = same };
    }) last

-- it was cut off
pub Puts-failed : {K : Type 0} (g : Ghosts K) (all rest rest' bytes : List ℕ) (start done : ℕ) (old now new : K) (failed : PutFailed)
    → Puts all rest start done (g.out old) (g.out now) → g.faults now ≡ g.faults old → rest ≡ bytes ++ rest'
    → PutBehind g done bytes now new (Err failed) → PutBehind g start all old new (Err failed)
Puts-failed g all rest rest' bytes start done old now new failed before same next cut =
    Puts-last g all rest start done old now new (Err failed) before same (Put-cut g done rest bytes rest' now new failed next cut)

-- or has put all
pub Puts-whole : {K : Type 0} (g : Ghosts K) (all rest : List ℕ) (start done : ℕ) (old now : K)
    → Puts all rest start done (g.out old) (g.out now) → g.faults now ≡ g.faults old → rest ≡ [] → PutBehind g start all old now (Ok done)
Puts-whole g all rest start done old now before same none =
    Put-as g start before.front all old now (Ok done) (sym (before.split ∙ ap (λ xs. before.front ++ xs) none ∙ append-nil before.front))
    (record {
      count = before.count;
      ok = before.written;
      err = tt;
      cause = record { later = no-less (g.faults old) (g.faults now) same; failed = tt; fine = same };
    })
