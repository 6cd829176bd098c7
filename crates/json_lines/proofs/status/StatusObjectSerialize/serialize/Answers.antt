use Rattle.std.proofs.lemmas.Result.{on_ok_weaker}
use Rattle.json_lines.proofs.status.StatusObjectSerialize.serialize.Goals as goal

-- a member is its key, what is sent for it, and the members after it
pub returns : goal.returns
returns g c =
    on_ok_weaker c.end_map.result (λ ended. (
      _,
      c.in_ok-begin_map.ensures,
      (
        _,
        _,
        c.in_ok-key.ensures,
        c.in_ok-u64.ensures,
        (
          _,
          _,
          c.in_ok-key-2.ensures,
          c.in_ok-put_mode.ensures,
          (
            _,
            _,
            c.in_ok-key-3.ensures,
            c.in_ok-u64-2.ensures,
            (
              _,
              _,
              c.in_ok-key-4.ensures,
              c.in_ok-u64-3.ensures,
              (
                _,
                _,
                c.in_ok-key-5.ensures,
                c.in_ok-u64-4.ensures,
                (
                  _,
                  _,
                  c.in_ok-key-6.ensures,
                  c.in_ok-u64-5.ensures,
                  (_, _, c.in_ok-key-7.ensures, c.in_ok-str.ensures, ended),
                ),
              ),
            ),
          ),
        ),
      ),
    )) c.end_map.ensures
