-- What was gathered is written.
use Rattle.std.proofs.Common.{◌≡◌, ℕ, ◌≤◌, inl, inr, Bool, List, [], ◌++◌, Option, None, Some, ap, sym, refl, subst, ◌∙◌, append-nil, append_assoc, arith, le_refl, le_trans, Result, Ok, Err, IsErr, true, true≢false, is_err}
use Rattle.std.specs.Io.KnownBytes.{Appends, Keeps}
use Rattle.std.proofs.KnownBytes.{Appends-nil, Appends-trans, Appends-kept}
use Rattle.tinyvec_io.specs.Counted.{CountedView, CountsFault, AppendsFront, Reported}
use Rattle.tinyvec_script.specs.Writes.{gathered_of, Writes, Gathers, Sends}

-- a fault that was reported since then was reported since before, and one up to then was up to later
pub reported_since : (f g h : ℕ) → f ≤ g → Reported g h → Reported f h
reported_since f g h le (inl more) = inl (omega arith)
reported_since f g h le (inr most) = inr most

one_fault : (f g : ℕ) → CountsFault true f g → Reported f g
one_fault f g counted = grind (arith, counted.exact)

-- none failed before
counts_since : {b : Bool} {f g h : ℕ} → g ≡ f → CountsFault b g h → CountsFault b f h
counts_since {b} {h = h} none = subst (λ f. CountsFault b f h) none

module _ {W : Type 0} {contents : W → Option (List ℕ)} where
  -- nothing was put
  pub gathers_nothing : {w : CountedView W} {gathered : Option (List ℕ)} → Gathers contents w gathered w gathered []
  gathers_nothing = record {
    after_error = λ e. (refl, e);
    behind = λ bytes e. record { written = []; rest = bytes; appended = Appends-nil _; whole = append-nil bytes; grows = le_refl _; kept = inl (e, refl) };
  }

  -- a text was put behind what is gathered, of which nothing is written
  pub gathers_more : {E : Type 0} {w : CountedView W} (error : Option E) (bytes more text : List ℕ) → more ≡ bytes ++ text
      → Gathers contents w (gathered_of error bytes) w (gathered_of error more) text
  gathers_more None bytes more text is = record {
    after_error = λ e. absurd (let no : Some bytes ≡ None = e in cc);
    behind = λ before e. record {
      written = [];
      rest = more;
      appended = Appends-nil _;
      whole = (let same : bytes ≡ before = cc in ap (λ l. l ++ text) (sym same) ∙ sym is);
      grows = le_refl _;
      kept = inl (refl, refl);
    };
  }
  gathers_more (Some error) bytes more text is = record { after_error = λ e. (refl, refl); behind = λ before e. absurd (let no : None ≡ Some before = e in cc) }

  -- a text was put, and then one more
  pub gathers_then : {old mid new : CountedView W} {a b c : Option (List ℕ)} {text more : List ℕ} → Gathers contents old a mid b text
      → Gathers contents mid b new c more → Gathers contents old a new c (text ++ more)
  gathers_then {old} {mid} {new} {a} {b} {c} {text} {more} p q = record {
    after_error = λ e. let first = p.after_error e in let next = q.after_error first.1 in (next.0 ∙ first.0, next.1);
    behind = λ bytes e. let first = p.behind bytes e in elim first.kept [
      | inl goes_on ↦
          (let next = q.behind first.rest goes_on.0 in
          record {
            written = first.written ++ next.written;
            rest = next.rest;
            appended = Appends-trans _ _ _ first.written next.written first.appended next.appended;
            whole = rw (← append_assoc bytes text more, first.whole) (simp (append_assoc, next.whole));
            grows = le_trans first.grows next.grows;
            kept = elim next.kept [ inl on ↦ inl (on.0, on.1 ∙ goes_on.1) | inr off ↦ inr (off.0, reported_since _ _ _ first.grows off.1, counts_since goes_on.1 off.2) ];
          })
      | inr failed ↦
          (let stays = q.after_error failed.0 in
          record {
            written = first.written;
            rest = first.rest ++ more;
            appended = rw stays.0 first.appended;
            whole = sym (append_assoc bytes text more) ∙ ap (λ l. l ++ more) first.whole ∙ append_assoc first.written first.rest more;
            grows = rw stays.0 first.grows;
            kept = inr (stays.1, rw stays.0 failed.1, rw stays.0 failed.2);
          })
    ];
  }

  -- what was gathered was not written, so the text is not either
  pub gathers_unsent : {T E : Type 0} {old new : CountedView W} {a b : Option (List ℕ)} {r : Result T E} {e : E} {text : List ℕ}
      → r ≡ Err e → Sends contents old a new b r → Gathers contents old a new None text
  gathers_unsent {text = text} was q = record {
    after_error = λ none. ((q.after_error none).0, refl);
    behind = λ bytes some.
        let failed = rw was at (q.behind bytes some) in
        record {
          written = failed.err.0;
          rest = failed.err.1 ++ text;
          appended = failed.err.3;
          whole = ap (λ l. l ++ text) failed.err.2 ∙ append_assoc failed.err.0 failed.err.1 text;
          grows = failed.grows;
          kept = inr (refl, failed.fault, failed.failed);
        };
  }

  -- what was gathered was written
  pub gathers_sent : {T E : Type 0} {old new : CountedView W} {a b : Option (List ℕ)} {r : Result T E} {x : T}
      → r ≡ Ok x → Sends contents old a new b r → Gathers contents old a new b []
  gathers_sent {r = r} was q = record {
    after_error = λ none. absurd (true≢false (sym (q.after_error none).1 ∙ ap is_err was));
    behind = λ bytes some.
        let sent = rw was at (q.behind bytes some) in
        record { written = bytes; rest = []; appended = sent.ok; whole = refl; grows = sent.grows; kept = inl (rw was at q.empty, sent.failed.exact) };
  }

  -- where nothing is gathered, a text was written, or a front of it
  pub gathers_written : {old new : CountedView W} {text : List ℕ} → Appends (contents old.inner) (contents new.inner) text → old.faults ≤ new.faults
      → new.failed ≡ old.failed → Gathers contents old (Some []) new (Some []) text
  gathers_written {text = text} q le none_failed = record {
    after_error = λ e. absurd (let no : Some [] ≡ None = e in cc);
    behind = λ bytes e. record {
      written = text;
      rest = [];
      appended = q;
      whole = (let none : [] ≡ bytes = cc in ap (λ l. l ++ text) (sym none) ∙ sym (append-nil text));
      grows = le;
      kept = inl (refl, none_failed);
    };
  }

  pub gathers_failed : {old new : CountedView W} {text : List ℕ} → AppendsFront (contents old.inner) (contents new.inner) text → old.faults ≤ new.faults
      → Reported old.faults new.faults → CountsFault true old.failed new.failed → Gathers contents old (Some []) new None text
  gathers_failed {text = text} q le fault failed = record {
    after_error = λ e. absurd (let no : Some [] ≡ None = e in cc);
    behind = λ bytes e. record {
      written = q.0;
      rest = q.1;
      appended = q.3;
      whole = (let none : [] ≡ bytes = cc in ap (λ l. l ++ text) (sym none) ∙ q.2);
      grows = le;
      kept = inr (refl, fault, failed);
    };
  }

  -- a front of the text was written, and then the rest, or a front of it
  writes_behind : {T E : Type 0} {old mid new : CountedView W} (r : Result T E) (written rest text : List ℕ) → Appends (contents old.inner) (contents mid.inner) written
      → text ≡ written ++ rest → old.faults ≤ mid.faults → mid.failed ≡ old.failed → Writes contents mid new r rest → Writes contents old new r text
  writes_behind (Ok x) written rest text wrote is le failed sent =
      record { ok = subst (Appends _ _) (sym is) (Appends-trans _ _ _ written rest wrote sent.ok); err = tt; grows = le_trans le sent.grows; fault = tt; failed = counts_since failed sent.failed }
  writes_behind (Err e) written rest text wrote is le failed sent = record {
    ok = tt;
    err = (written ++ sent.err.0, sent.err.1, is ∙ ap (λ l. written ++ l) sent.err.2 ∙ sym (append_assoc written _ _), Appends-trans _ _ _ written sent.err.0 wrote sent.err.3);
    grows = le_trans le sent.grows;
    fault = reported_since _ _ _ le sent.fault;
    failed = counts_since failed sent.failed;
  }

  -- or it failed before
  writes_failed : {T E : Type 0} {old new : CountedView W} (r : Result T E) (text : List ℕ) → IsErr r → AppendsFront (contents old.inner) (contents new.inner) text
      → old.faults ≤ new.faults → Reported old.faults new.faults → CountsFault true old.failed new.failed → Writes contents old new r text
  writes_failed (Ok x) text err wrote le fault failed = absurd (true≢false (sym err))
  writes_failed (Err e) text err wrote le fault failed = record { ok = tt; err = wrote; grows = le; fault = fault; failed = failed }

  -- a text was put where nothing was gathered, and then what was gathered was written
  pub sends_then : {T E : Type 0} {old mid new : CountedView W} {b c : Option (List ℕ)} {r : Result T E} {text : List ℕ}
      → Gathers contents old (Some []) mid b text → Sends contents mid b new c r → Writes contents old new r text
  sends_then {r = r} {text = text} p q =
      let first = p.behind [] refl in
      elim first.kept [
        | inl goes_on ↦ writes_behind r first.written first.rest text first.appended first.whole first.grows goes_on.1 (q.behind first.rest goes_on.0)
        | inr failed ↦
            (let stays = q.after_error failed.0 in
            writes_failed r text stays.1 (first.written, first.rest, first.whole, rw stays.0 first.appended) (rw stays.0 first.grows) (rw stays.0 failed.1) (rw stays.0 failed.2))
      ]

  -- it was flushed after that
  pub writes_flushed : {T F E : Type 0} {old mid new : CountedView W} {sent : Result T F} (r : Result T E) {x : T} {text : List ℕ} → sent ≡ Ok x
      → Writes contents old mid sent text → Keeps (contents mid.inner) (contents new.inner) → CountsFault (is_err r) mid.faults new.faults
      → CountsFault (is_err r) mid.failed new.failed → Writes contents old new r text
  writes_flushed (Ok y) was p kept counted failed =
      record { ok = Appends-kept _ _ _ _ (rw was at p.ok) kept; err = tt; grows = le_trans p.grows counted.grows; fault = tt; failed = counts_since (rw was at p.failed).exact failed }
  writes_flushed (Err e) was p kept counted failed = record {
    ok = tt;
    err = (_, [], sym (append-nil _), Appends-kept _ _ _ _ (rw was at p.ok) kept);
    grows = le_trans p.grows counted.grows;
    fault = reported_since _ _ _ p.grows (one_fault _ _ counted);
    failed = counts_since (rw was at p.failed).exact failed;
  }
