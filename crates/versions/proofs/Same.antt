-- A view that obeys the rules of version 1 obeys those of version 2, and shows the same there.
use Rattle.std.proofs.Common.{◌≡◌, ◌-◌, ◌*◌, ℕ, inl, inr, refl, sym, ap, ◌∙◌, subst, arith, take, Option, Some, None, IsTrue, IsFalse, unwrap_or}
use Rattle.std.proofs.lemmas.Bool.{cases_lt, cases_Bool, and_parts, both_ways}
use Rattle.std.specs.Bool.{then_some}
use Rattle.std.specs.Option.{option_and_then}
use Rattle.model.specs.Layout.{Geometry, is_data_address, is_number, root}
use Rattle.model.specs.View.{View}
use Rattle.model.specs.Uses.{is_sound, is_sound_at, use_at, claim_at, IsClaimed}
use Rattle.model.specs.Rules.{ObeysRules}
use Rattle.model.proofs.Uses.{use_parts}
use Rattle.findings.specs.declared.finding.Finding.{Finding}
use Rattle.findings.specs.declared.finding.Finding.TheVariants.{LostInode, CountHigh, LostBlock, LostNumber}
use Rattle.findings.specs.Findings.{IsFinding, is_soft}
use Rattle.findings.proofs.Soft.{soft_from_rules}
use Rattle.machine.specs.Cells.{block_of, seen}
use Rattle.versions.specs.Shown.{ShowsTheSame, of_version}
use Rattle.versions.proofs.Alike.{single, double, moved_once, more_sound, few_blocks, same_sound_at, same_directory_at, use_back, claimed_there, claimed_back, same_use, same_slot, same_entries, same_lookup}
use Rattle.versions.proofs.Carried.{SameFacts, other_way, names_there, directory_there, reached_there, entry_there, reachable_there, parent_there, sound_there, same_target, has_entries_there}

-- a volume's numbers in the version that they have
pub same_version : (geo : Geometry) (v : ℕ) → geo.version ≡ v → of_version v geo ≡ geo
same_version geo v e = λ i. record { groups = geo.groups; blocks = geo.blocks; inodes = geo.inodes; version = sym e i }

unsound_no_use : (geo : Geometry) (view : View) (i k : ℕ) → IsFalse (is_sound_at geo view i) → use_at geo view i k ≡ None
unsound_no_use geo view i k none = go (use_at geo view i k) refl
  where
    go : (o : Option ℕ) → use_at geo view i k ≡ o → use_at geo view i k ≡ None
    go None e = e
    go (Some v) e = absurd (both_ways (is_sound_at geo view i) none (use_parts geo view i k v e).sound)

-- ---- findings
-- what is found of a soft kind in one version is found in the other
soft_there : (geo : Geometry) (v w : ℕ) (view : View) (h : SameFacts geo v w view)
    → ((a : ℕ) → IsClaimed (of_version w geo) view a → IsClaimed (of_version v geo) view a)
    → (f : Finding) → IsTrue (is_soft f) → IsFinding (of_version v geo) view f → IsFinding (of_version w geo) view f
soft_there geo v w view h claimed (LostInode i) soft x = (sound_there geo v w view h i x.0, λ r. x.1 (reachable_there geo w v view (other_way h) i r))
soft_there geo v w view h claimed (CountHigh i l e) soft x = (reachable_there geo v w view h i x.0, x.1, has_entries_there geo v w view h i e x.0 x.2, x.3)
soft_there geo v w view h claimed (LostBlock a) soft x = (x.0, x.1, λ c. x.2 (claimed a c))
soft_there geo v w view h claimed (LostNumber i) soft x = x
soft_there geo v w view h claimed _ soft x = cc

module _ (geo : Geometry) (view : View) (rules : ObeysRules (single geo) view) where
  facts : SameFacts geo 1 2 view
  facts = record {
    sound_at = same_sound_at geo view rules;
    directory_at = same_directory_at geo view rules;
    slots = same_slot geo view rules;
    entries = same_entries geo view rules;
    lookups = same_lookup geo view rules;
  }

  back : SameFacts geo 2 1 view
  back = other_way facts

  -- ---- the rules
  pub obeys_double : ObeysRules (double geo) view
  obeys_double = record {
    rule1 = directory_there geo 1 2 view facts root rules.rule1;
    rule2 = λ i n. elim (rules.rule2 i n) [ inl free ↦ inl free | inr sound ↦ inr (more_sound geo (view.inode i) sound) ];
    rule3 = record {
      claims = λ i l v u. let b = use_back geo view rules i l v u in rules.rule3.claims i b.0 v b.1;
      marked = λ i l a c. let b = use_back geo view rules i l a c.0 in rules.rule3.marked i b.0 a (b.1, c.1);
      once = λ i l j m a c e.
          let b = use_back geo view rules i l a c.0 in
          let d = use_back geo view rules j m a e.0 in
          let o = rules.rule3.once i b.0 j d.0 a (b.1, c.1) (d.1, e.1) in
          (o.0, moved_once geo b.0 d.0 l m b.2 d.2 o.1);
    };
    rule4 = rules.rule4;
    rule5 = λ d r.
        let old = rules.rule5 d (reached_there geo 2 1 view back d r) in (names_there geo 1 2 view facts d 0 d old.0, parent_there geo 1 2 view facts d old.1);
    rule6 = record {
      none_bad = λ d s r b. rules.rule6.none_bad d s (reached_there geo 2 1 view back d r) (facts.slots d s ∙ b);
      distinct = λ d s t i j name r p q e f. rules.rule6.distinct d s t i j name (reached_there geo 2 1 view back d r) p q (facts.slots d s ∙ e) (facts.slots d t ∙ f);
      sound = λ d s i r n. more_sound geo (view.inode i) (rules.rule6.sound d s i (reached_there geo 2 1 view back d r) (names_there geo 2 1 view back d s i n));
    };
    rule7 = record {
      once = λ d s e t i directory x y.
          rules.rule7.once d s e t i (directory_there geo 2 1 view back i directory) (entry_there geo 2 1 view back d s i x) (entry_there geo 2 1 view back e t i y);
      no_root = λ d s x. rules.rule7.no_root d s (entry_there geo 2 1 view back d s root x);
    };
    rule8 = λ i n r e. rules.rule8 i n (reachable_there geo 2 1 view back i r) (has_entries_there geo 2 1 view back i n r e);
  }

  finding_there : (f : Finding) → IsFinding (single geo) view f → IsFinding (double geo) view f
  finding_there f x = soft_there geo 1 2 view facts (claimed_back geo view rules) f (soft_from_rules (single geo) view rules f x) x

  finding_back : (f : Finding) → IsFinding (double geo) view f → IsFinding (single geo) view f
  finding_back f x = soft_there geo 2 1 view back (claimed_there geo view rules) f (soft_from_rules (double geo) view obeys_double f x) x

  -- ---- blocks of files
  same_claim : (i k : ℕ) → use_at (single geo) view i k ≡ use_at (double geo) view i k → block_of (single geo) view i k ≡ block_of (double geo) view i k
  unfolding claim_at
  same_claim i k e = ap (λ o. unwrap_or (option_and_then (λ a. then_some (is_data_address geo a) a) o) 0) e

  unsound_none : (i k : ℕ) → IsFalse (is_sound_at (single geo) view i) → use_at (single geo) view i k ≡ use_at (double geo) view i k
  unsound_none i k none = unsound_no_use (single geo) view i k none ∙ sym (unsound_no_use (double geo) view i k (sym (same_sound_at geo view rules i) ∙ none))

  pub same_seen : (i k : ℕ) → seen (single geo) view i k ≡ seen (double geo) view i k
  same_seen i k = elim (cases_lt k 268) [
    | inl low ↦ shown (same_claim i k (same_use geo view rules i k low))
    | inr far ↦ elim (cases_Bool (is_sound_at (single geo) view i)) [
      | inl sound ↦
          let few = few_blocks geo view (view.inode i) (and_parts (is_number geo i) (is_sound (single geo) (view.inode i)) sound).1 in
          let past : (view.inode i).size - 1024 * k ≡ 0 = omega arith in
          ap (λ n. take n (view.bytes (block_of (single geo) view i k))) past ∙ sym (ap (λ n. take n (view.bytes (block_of (double geo) view i k))) past)
      | inr none ↦ shown (same_claim i k (unsound_none i k none))
    ]
  ]
    where
      shown : block_of (single geo) view i k ≡ block_of (double geo) view i k → seen (single geo) view i k ≡ seen (double geo) view i k
      shown e = ap (λ a. take ((view.inode i).size - 1024 * k) (view.bytes a)) e

  pub shows_in_double : ShowsTheSame (single geo) view (double geo) view
  shows_in_double = record {
    obeys = obeys_double;
    findings = λ f. (finding_there f, finding_back f);
    lists = λ found. (
      (λ are. record { in_order = are.in_order; exactly = λ f. ((λ h. finding_there f ((are.exactly f).0 h)), (λ x. (are.exactly f).1 (finding_back f x))) }),
      (λ are. record { in_order = are.in_order; exactly = λ f. ((λ h. finding_back f ((are.exactly f).0 h)), (λ x. (are.exactly f).1 (finding_there f x))) }),
    );
    records = λ i. refl;
    slots = facts.slots;
    paths = same_target geo 1 2 view facts;
    files = same_seen;
  }

pub shows_the_same : (geo : Geometry) (view : View) → geo.version ≡ 1 → ObeysRules geo view → ShowsTheSame geo view (of_version 2 geo) view
shows_the_same geo view one rules =
    let same = same_version geo 1 one in
    subst (λ g. ShowsTheSame g view (of_version 2 geo) view) same (shows_in_double geo view (subst (λ g. ObeysRules g view) (sym same) rules))

-- and a view that obeys the rules shows the same as itself
pub shows_itself : (geo : Geometry) (view : View) → ObeysRules geo view → ShowsTheSame geo view geo view
shows_itself geo view rules = record {
  obeys = rules;
  findings = λ f. ((λ x. x), (λ x. x));
  lists = λ found. ((λ x. x), (λ x. x));
  records = λ i. refl;
  slots = λ d s. refl;
  paths = λ parts. refl;
  files = λ i k. refl;
}
